use Rattle.std.proofs.Common.{Some, sym, ap, ◌∙◌}
use Rattle.witness_core.specs.declared.witness_receipts.fate.Fate.TheVariants.{Stored}
use Rattle.witness_core.proofs.WitnessReceiptsLemmas.FateSteps.{fate_not_stored, fate_stored}
use Rattle.witness_core.proofs.WitnessReceiptsLemmas.Numbers.{not_stored, stands_there, stored}
use Rattle.witness_core.proofs.witness_receipts.fate.event_fate.Goals as goal

pub fate_of_waiting-requires-clause-waits : goal.fate_of_waiting-requires-clause-waits
fate_of_waiting-requires-clause-waits c =
    let facts = c.sound.ensures in
    λ b at. not_stored c.args.core.now facts.sound facts.held facts.accepted c.args.number b at (sym c.place_of.ensures ∙ c.in-None.is)

pub returns-in-Some : goal.returns-in-Some
returns-in-Some c =
    let core = c.args.core.now in
    let facts = c.sound.ensures in
    let first = sym c.place_of.ensures ∙ c.in-Some.is in
    λ b at. fate_stored c.args.key.now core b (c.requires.event b at) (stored core facts.sound facts.held facts.accepted c.args.number b at c.in-Some.place first)
    ∙ ap (λ listed. Some (Stored listed)) (sym (c.is_witness_at.ensures b (stands_there core facts.sound facts.held facts.accepted c.args.number b at c.in-Some.place first)))

pub returns-in-None : goal.returns-in-None
returns-in-None c =
    let core = c.args.core.now in
    let facts = c.sound.ensures in
    λ b at. fate_not_stored c.args.key.now core b (c.requires.event b at) c.fate_of_waiting.result
    (not_stored core facts.sound facts.held facts.accepted c.args.number b at (sym c.place_of.ensures ∙ c.in-None.is)) (c.fate_of_waiting.ensures b at)
