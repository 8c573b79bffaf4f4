use Rattle.std.proofs.Common.{◌≡◌, ◌<◌, List, length, map, take, All}
use Rattle.std.specs.Prelude.{AllPairs}
use Rattle.journal.specs.declared.journal.body.Body.{Body}
use Rattle.journal.specs.Journal.Journals.{chosen}
use Rattle.journal.specs.Journal.Logs.{live}
use Rattle.journal_views.specs.JournalViews.Rises.{sn_at}
use Rattle.journal_views.proofs.journal_views.live_events.live.Given as goal

-- what is live among those so far
abbrev pub invariant-loop-place : goal.invariant-loop-place
invariant-loop-place l = record {
  live : (held : List Body) → map (λ b. b.event) held ≡ l.events → chosen held l.numbers.items ≡ live (chosen held (take l.place l.accepted)) l.prefix;
  held : All (λ n. n < length l.events) l.numbers.items;
  rising : AllPairs (λ m n. sn_at l.events m < sn_at l.events n) l.numbers.items;
}
