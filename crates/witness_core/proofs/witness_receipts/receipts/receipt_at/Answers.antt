use Rattle.std.proofs.Common.{◌≡◌, ◌∷◌, [], Some, option_map, sym, ap, subst, ◌∙◌}
use Rattle.keri_outside.specs.Asked.{signing}
use Rattle.lists.specs.KeriSpecs.Shown.{Puts}
use Rattle.journal.proofs.JournalLemmas.Places.{some_at}
use Rattle.witness_core.specs.WitnessReceipts.Receipts.{signings_of}
use Rattle.witness_core.proofs.WitnessReceiptsLemmas.Owns.{chosen_one}
use Rattle.witness_core.proofs.witness_receipts.receipts.receipt_at.Goals as goal

pub returns-clause-asked : goal.returns-clause-asked
returns-clause-asked g c =
    let held = c.args.core.now.held in
    let key = c.args.key.now in
    let b = some_at held c.args.number c.requires.held in
    let both : Some c.in-Some-body.body.now ≡ Some b.0.bytes = c.in-Some-body.ensures.body ∙ ap (option_map (λ c. c.bytes)) b.1 in
    let same : c.in-Some-body.body.now ≡ b.0.bytes = cc in
    subst (Puts (g.S.Signer.signings c.args.signer.now) (g.S.Signer.signings c.receipt_of.new.signer) c.receipt_of.result)
    (sym (ap (signings_of key) (chosen_one held c.args.number b.0 b.1) ∙ ap (λ text. signing key text ∷ []) (sym same))) c.receipt_of.ensures.asked
