use Rattle.std.proofs.Common.{◌==◌, ◌∙◌, sym, ap}
use Rattle.journal.specs.EventRules.Claims.{passes}
use Rattle.journal.proofs.event_rules.claim_support.has_index.Goals as goal

pub returns-in-Some : goal.returns-in-Some
returns-in-Some g c = ap (passes (λ s. s.index == c.args.index)) (sym c.in-Some.is) ∙ c.good_sig.ensures (λ s. s.index == c.args.index)
