use Rattle.std.proofs.Common.{◌≡◌, ◌++◌, [], drop, map}
use Rattle.journal_views.specs.JournalViews.Groups.{cut}
use Rattle.journal_views.specs.JournalViews.Rankings.{number_place}
use Rattle.journal_views.proofs.journal_views.conflicts.sets_of.Given as goal

-- the sets so far are followed by those of the open group and of what is left
abbrev pub invariant-loop-place : goal.invariant-loop-place
invariant-loop-place l = record {
  ahead : map (λ set. set.items) l.sets.items ++ cut (number_place l.events) l.group.items (drop l.place l.numbers) ≡ cut (number_place l.events) [] l.numbers;
}
