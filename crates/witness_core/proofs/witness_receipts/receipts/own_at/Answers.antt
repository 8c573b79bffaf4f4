use Rattle.std.proofs.Common.{◌<◌, ◌==◌, length, sym, ◌∙◌}
use Rattle.std.proofs.lemmas.List.Elements.{All-take}
use Rattle.validator_core.specs.ValidatorCore.View.{accepted_by}
use Rattle.witness_core.proofs.WitnessReceiptsLemmas.Numbers.{apart, before_late, before_some, number_there, stands_there}
use Rattle.witness_core.proofs.WitnessReceiptsLemmas.Owns.{chosen_none, chosen_one, own_listed, own_other, own_out}
use Rattle.witness_core.proofs.witness_receipts.receipts.own_at.Goals as goal

pub returns-then-place-front-clause-own : goal.returns-then-place-front-clause-own
returns-then-place-front-clause-own c =
    let core = c.args.core.now in
    let facts = c.sound.ensures in
    let front = c.args.front in
    λ b at. chosen_none core.held
    ∙ sym (own_out core.held (apart core facts.sound) c.args.number b at core.accepted facts.held (accepted_by core) facts.accepted front
    (All-take (λ n. n < length core.held) front core.accepted facts.held) c.args.key.now
    (before_late (λ m. m == c.args.number) core.accepted front c.args.place c.requires.place c.if-place-front.true))

pub returns-then-is_witness_at-clause-own : goal.returns-then-is_witness_at-clause-own
returns-then-is_witness_at-clause-own c =
    let core = c.args.core.now in
    let facts = c.sound.ensures in
    let front = c.args.front in
    let n = c.args.number in
    let place = c.args.place in
    λ b at. chosen_one core.held n b at
    ∙ sym (own_listed core.held (apart core facts.sound) n b at core.accepted facts.held (accepted_by core) facts.accepted front
    (All-take (λ n. n < length core.held) front core.accepted facts.held) c.args.key.now
    (before_some (λ m. m == n) core.accepted front place c.requires.place n (number_there core facts.sound facts.held facts.accepted n b at place c.requires.place) c.if-place-front.false)
    (sym (c.is_witness_at.ensures b (stands_there core facts.sound facts.held facts.accepted n b at place c.requires.place)) ∙ c.if-is_witness_at.true))

pub returns-else-is_witness_at-clause-own : goal.returns-else-is_witness_at-clause-own
returns-else-is_witness_at-clause-own c =
    let core = c.args.core.now in
    let facts = c.sound.ensures in
    let front = c.args.front in
    let n = c.args.number in
    let place = c.args.place in
    λ b at. chosen_none core.held
    ∙ sym (own_other core.held (apart core facts.sound) n b at core.accepted facts.held (accepted_by core) facts.accepted front
    (All-take (λ n. n < length core.held) front core.accepted facts.held) c.args.key.now
    (before_some (λ m. m == n) core.accepted front place c.requires.place n (number_there core facts.sound facts.held facts.accepted n b at place c.requires.place) c.if-place-front.false)
    (sym (c.is_witness_at.ensures b (stands_there core facts.sound facts.held facts.accepted n b at place c.requires.place)) ∙ c.if-is_witness_at.false))
