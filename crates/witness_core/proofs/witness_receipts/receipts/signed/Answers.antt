use Rattle.std.proofs.Common.{◌∙◌, ◌∷◌, ◌++◌, [], length, take, get_or, refl, sym, ap, subst, arith}
use Rattle.std.specs.Prelude.{flat_map}
use Rattle.std.specs.List.{AllZip}
use Rattle.std.proofs.lemmas.List.{get_or_default, take_all}
use Rattle.lists.specs.KeriSpecs.Shown.{Puts, after}
use Rattle.lists.proofs.KeriSpecsLemmas.Putting.{after-nil, put_front, put_more}
use Rattle.journal.specs.Journal.Journals.{chosen}
use Rattle.journal.proofs.JournalLemmas.Places.{some_at}
use Rattle.witness_core.specs.WitnessReceipts.Receipts.{IsReceiptOf}
use Rattle.witness_core.proofs.WitnessReceiptsLemmas.Owns.{chosen_none}
use Rattle.witness_core.proofs.WitnessReceiptsLemmas.Signings.{chosen_next, signing_at, signings_at, zipped_push}
use Rattle.witness_core.proofs.witness_receipts.receipts.signed.Goals as goal

pub loop-number-init : goal.loop-number-init
loop-number-init g c = record {
  receipts_are = rw (chosen_none c.args.core.now.held, c.new-receipts.ensures.items) tt;
  gives_same = refl;
  asked_so_far = after-nil (g.S.Signer.signings c.args.signer.now);
  faults_same = refl;
}

pub loop-number-preserved : goal.loop-number-preserved
loop-number-preserved g c =
    let was = c.loop-number.invariant in
    let key = c.args.key.now in
    let held = c.args.core.now.held in
    let numbers = c.args.numbers.now in
    let i = c.loop-number.number-index in
    let low = c.loop-number-test.true in
    let n = get_or numbers i 0 in
    let b = some_at held n (c.requires.held i 0 low) in
    let R = IsReceiptOf (g.S.Signer.gives c.args.signer.now) key in
    let one = subst (λ gives. IsReceiptOf gives key b.0 c.in_ok-receipt.receipt) was.gives_same (c.in_ok-receipt.ensures.receipt b.0 b.1) in
    record {
      receipts_are = subst (λ bodies. AllZip R bodies c.push.new.self.items) (sym (chosen_next held numbers i b.0 low b.1))
          (subst (λ rs. AllZip R (chosen held (take i numbers) ++ b.0 ∷ []) rs) (sym c.in_ok-push.ensures.items)
          (zipped_push R (chosen held (take i numbers)) c.loop-number.receipts.items b.0 c.in_ok-receipt.receipt was.receipts_are one));
      gives_same = c.receipt_at.ensures.gives ∙ was.gives_same;
      asked_so_far = put_more (signing_at key held) numbers i n low (get_or_default numbers i 0 n low) (g.S.Signer.signings c.args.signer.now)
          (g.S.Signer.signings c.loop-number.signer) (g.S.Signer.signings c.receipt_at.new.signer) was.asked_so_far c.in_ok-receipt.ensures.asked;
      faults_same = c.in_ok-receipt.ensures.count ∙ was.faults_same;
    }

pub returns-in_err-receipt-clause-asked : goal.returns-in_err-receipt-clause-asked
returns-in_err-receipt-clause-asked g c =
    let held = c.args.core.now.held in
    let numbers = c.args.numbers.now in
    let i = c.loop-number.number-index in
    let n = get_or numbers i 0 in
    let text = signing_at c.args.key.now held in
    let old = g.S.Signer.signings c.args.signer.now in
    let new = g.S.Signer.signings c.receipt_at.new.signer in
    subst (Puts old new c.from_residual.result) (signings_at c.args.key.now held numbers)
    (put_front text numbers i n c.loop-number-test.true (get_or_default numbers i 0 n c.loop-number-test.true) c.from_residual.result old (g.S.Signer.signings c.loop-number.signer) new
    c.from_residual.ensures.0 c.loop-number.invariant.asked_so_far c.in_err-receipt.ensures.asked)

pub returns-in_err-push-clause-asked : goal.returns-in_err-push-clause-asked
returns-in_err-push-clause-asked g c =
    let held = c.args.core.now.held in
    let numbers = c.args.numbers.now in
    let i = c.loop-number.number-index in
    let n = get_or numbers i 0 in
    let text = signing_at c.args.key.now held in
    let old = g.S.Signer.signings c.args.signer.now in
    let before = g.S.Signer.signings c.loop-number.signer in
    let new = g.S.Signer.signings c.receipt_at.new.signer in
    let asked = text n in
    subst (Puts old new c.from_residual-in_err-push.result) (signings_at c.args.key.now held numbers)
    (put_front text numbers i n c.loop-number-test.true (get_or_default numbers i 0 n c.loop-number-test.true) c.from_residual-in_err-push.result old before new
    c.from_residual-in_err-push.ensures.0 c.loop-number.invariant.asked_so_far
    (length asked, c.in_ok-receipt.ensures.asked ∙ ap (after before) (sym (take_all (length asked) asked (omega arith)))))

pub returns-clause-asked : goal.returns-clause-asked
returns-clause-asked g c =
    let held = c.args.core.now.held in
    let numbers = c.args.numbers.now in
    let old = g.S.Signer.signings c.args.signer.now in
    c.loop-number.invariant.asked_so_far
    ∙ ap (λ ns. after old (flat_map (signing_at c.args.key.now held) ns)) (take_all c.loop-number.number-index numbers (omega (arith, c.loop-number-test.false)))
    ∙ ap (after old) (signings_at c.args.key.now held numbers)
