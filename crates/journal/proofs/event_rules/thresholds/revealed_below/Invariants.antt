use Rattle.std.proofs.Common.{◌≡◌, ◌≤◌, length}
use Rattle.std.specs.Prelude.{filter}
use Rattle.journal.specs.EventRules.Parts.{reveal}
use Rattle.key_state.specs.Exposure.{numbers_below}
use Rattle.journal.proofs.event_rules.thresholds.revealed_below.Given as goal

abbrev pub invariant-loop-place : goal.invariant-loop-place
invariant-loop-place g l = (l.places ≡ filter (λ n. g.S.Support.has l.support (reveal n)) (numbers_below l.place)) × (length l.places ≤ l.place)
