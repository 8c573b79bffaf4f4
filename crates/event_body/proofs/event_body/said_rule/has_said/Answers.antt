use Rattle.std.proofs.Common.{subst, sym, ◌∙◌}
use Rattle.said_digest.specs.Replaced.{LieIn}
use Rattle.event_body.proofs.EventBodyLemmas.Places.{places_lie_in, tests_said}
use Rattle.event_body.proofs.event_body.said_rule.has_said.Goals as goal

pub holds-requires : goal.holds-requires
holds-requires c = subst (LieIn c.args.bytes.now) (sym c.places.ensures) (places_lie_in c.args.event.now c.args.bytes.now c.requires.text)

pub returns : goal.returns
returns c =
    tests_said c.args.event.now c.args.bytes.now c.said.result c.places.result.now c.holds.result c.requires.text (sym c.is_receipt.ensures ∙ c.if-is_receipt.false)
    c.said.ensures c.places.ensures c.holds.ensures
