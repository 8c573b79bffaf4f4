use Rattle.std.proofs.Common.{◌≡◌, ◌≤◌, length}
use Rattle.std.specs.Prelude.{filter}
use Rattle.journal.specs.EventRules.Parts.{index}
use Rattle.key_state.specs.Exposure.{numbers_below}
use Rattle.journal.proofs.event_rules.thresholds.indices_below.Given as goal

abbrev pub invariant-loop-index : goal.invariant-loop-index
invariant-loop-index g l = (l.indices ≡ filter (λ n. g.S.Support.has l.support (index n)) (numbers_below l.index)) × (length l.indices ≤ l.index)
