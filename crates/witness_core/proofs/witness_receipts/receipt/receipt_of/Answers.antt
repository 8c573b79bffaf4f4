use Rattle.std.proofs.Common.{◌∷◌, ◌++◌, [], refl, ap, ◌∙◌}
use Rattle.cesr_stream.specs.declared.couple.Couple.{Couple}
use Rattle.witness_core.specs.WitnessReceipts.Receipts.{couples_text}
use Rattle.witness_core.proofs.witness_receipts.receipt.receipt_of.Goals as goal

pub returns-clause-receipt : goal.returns-clause-receipt
returns-clause-receipt g c =
    let couple : Couple = record { key = c.args.key.now; sig = c.in_ok-sig.sig; fixed = c.requires.witness } in
    record {
      event = c.said.ensures;
      couple = couple;
      by_key = refl;
      signed = c.in_ok-sig.ensures.signature;
      text = c.in_ok-bytes.ensures ∙ ap (λ text. text ++ couples_text (couple ∷ [])) (c.deref.ensures.value ∙ c.in_ok-text.ensures);
    }
