use Rattle.std.proofs.Common.{◌≡◌, ◌<◌, length, take}
use Rattle.std.specs.Prelude.{All, filter}
use Rattle.validator_core.specs.Acceptance.Standing.{told_of}
use Rattle.validator_core.specs.Tables.View.{log_of}
use Rattle.journal.specs.Journal.Conflicts.{counts}
use Rattle.journal.specs.Journal.Journals.{chosen}
use Rattle.validator_core.proofs.validator_core.views.counted.Given as goal

-- those that count among the first bodies
abbrev pub invariant-loop-place : goal.invariant-loop-place
invariant-loop-place l = record {
  those : chosen l.tables.held l.numbers.items ≡ filter (counts (told_of l.tables) (log_of l.tables)) (take l.place l.tables.held);
  held : All (λ n. n < length l.tables.held) l.numbers.items;
}
