use Rattle.std.proofs.Common.{◌≡◌, ◌≤◌, length}
use Rattle.std.specs.Prelude.{filter}
use Rattle.journal.specs.EventRules.Parts.{backer}
use Rattle.key_state.specs.Exposure.{numbers_below}
use Rattle.journal.proofs.event_rules.thresholds.backer_count.Given as goal

abbrev pub invariant-loop-place : goal.invariant-loop-place
invariant-loop-place g l = (l.backers ≡ length (filter (λ n. g.S.Support.has l.support (backer n)) (numbers_below l.place))) × (l.backers ≤ l.place)
