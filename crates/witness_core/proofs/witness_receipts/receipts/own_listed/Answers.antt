use Rattle.std.proofs.Common.{◌<◌, ◌==◌, length, sym, ◌∙◌}
use Rattle.std.proofs.lemmas.List.Elements.{All-take}
use Rattle.validator_core.specs.ValidatorCore.View.{accepted_by}
use Rattle.witness_core.proofs.WitnessReceiptsLemmas.Numbers.{apart, before_none}
use Rattle.witness_core.proofs.WitnessReceiptsLemmas.Owns.{chosen_none, own_out}
use Rattle.witness_core.proofs.witness_receipts.receipts.own_listed.Goals as goal

pub returns-in-None-clause-own : goal.returns-in-None-clause-own
returns-in-None-clause-own c =
    let core = c.args.core.now in
    let facts = c.sound.ensures in
    let front = c.args.front in
    λ b at. chosen_none core.held
    ∙ sym (own_out core.held (apart core facts.sound) c.args.number b at core.accepted facts.held (accepted_by core) facts.accepted front
    (All-take (λ n. n < length core.held) front core.accepted facts.held) c.args.key.now
    (before_none (λ m. m == c.args.number) core.accepted front (sym c.place_of.ensures ∙ c.in-None.is)))
