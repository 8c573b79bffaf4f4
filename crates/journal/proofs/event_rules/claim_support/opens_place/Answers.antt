use Rattle.std.proofs.Common.{◌∙◌, sym, ap}
use Rattle.std.specs.Option.{option_copied}
use Rattle.journal.specs.EventRules.Claims.{passes}
use Rattle.journal.specs.EventRules.Parts.{opens_at}
use Rattle.journal.proofs.event_rules.claim_support.opens_place.Goals as goal

pub returns-in-Some : goal.returns-in-Some
returns-in-Some g c =
    let test = opens_at (option_copied c.args.state) c.args.event.now c.args.place in
    c.opens_commitment.ensures ∙ ap (passes test) (sym c.in-Some.is) ∙ c.good_sig.ensures test
