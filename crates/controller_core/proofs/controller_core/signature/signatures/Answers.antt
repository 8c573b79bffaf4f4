use Rattle.std.proofs.Common.{◌∙◌, None, length, get_or, refl, sym, ap, subst, arith}
use Rattle.std.proofs.lemmas.List.{get_or_default, take_all}
use Rattle.lists.specs.KeriSpecs.Shown.{after}
use Rattle.lists.proofs.KeriSpecsLemmas.Putting.{after-nil, put_front, put_more}
use Rattle.controller_core.specs.ControllerCore.Messages.{IsInSlot}
use Rattle.controller_core.specs.ControllerCore.Signings.{signing_at, signings_in}
use Rattle.controller_core.specs.declared.controller_core.slot.Slot.{Slot}
use Rattle.controller_core.proofs.ControllerCoreLemmas.Zipped.{zipped_more}
use Rattle.controller_core.proofs.controller_core.signature.signatures.Goals as goal

abbrev none : Slot
none = record { index = 0; ondex = None }

pub loop-slot-init : goal.loop-slot-init
loop-slot-init g c = record { sigs = rw c.new-sigs.ensures tt; gives_same = refl; asked_so_far = after-nil (g.S.Signer.signings c.args.signer.now); faults_same = refl }

pub loop-slot-preserved : goal.loop-slot-preserved
loop-slot-preserved g c =
    let was = c.loop-slot.invariant in
    let keys = c.args.keys.now in
    let body = c.args.body.now in
    let slots = c.args.slots.now in
    let i = c.loop-slot.slot-index in
    let slot = get_or slots i none in
    let one = subst (λ gives. IsInSlot gives keys body slot c.in_ok-sig.sig) was.gives_same c.in_ok-sig.ensures.sig in
    record {
      sigs = zipped_more (IsInSlot (g.S.Signer.gives c.args.signer.now) keys body) slots i none c.loop-slot.sigs c.push.new.self c.in_ok-sig.sig c.loop-slot-test.true was.sigs one c.in_ok-push.ensures.ok;
      gives_same = c.signature.ensures.gives ∙ was.gives_same;
      asked_so_far = put_more (signing_at keys body) slots i slot c.loop-slot-test.true (get_or_default slots i none slot c.loop-slot-test.true) (g.S.Signer.signings c.args.signer.now)
          (g.S.Signer.signings c.loop-slot.signer) (g.S.Signer.signings c.signature.new.signer) was.asked_so_far c.in_ok-sig.ensures.asked;
      faults_same = c.in_ok-sig.ensures.cause.else_same ∙ was.faults_same;
    }

pub returns-in_err-sig-clause-asked : goal.returns-in_err-sig-clause-asked
returns-in_err-sig-clause-asked g c =
    let slots = c.args.slots.now in
    let i = c.loop-slot.slot-index in
    let slot = get_or slots i none in
    put_front (signing_at c.args.keys.now c.args.body.now) slots i slot c.loop-slot-test.true (get_or_default slots i none slot c.loop-slot-test.true) c.from_residual.result
    (g.S.Signer.signings c.args.signer.now) (g.S.Signer.signings c.loop-slot.signer) (g.S.Signer.signings c.signature.new.signer) c.from_residual.ensures.0
    c.loop-slot.invariant.asked_so_far c.in_err-sig.ensures.asked

pub returns-in_err-push-clause-asked : goal.returns-in_err-push-clause-asked
returns-in_err-push-clause-asked g c =
    let slots = c.args.slots.now in
    let i = c.loop-slot.slot-index in
    let slot = get_or slots i none in
    let asked = signing_at c.args.keys.now c.args.body.now slot in
    put_front (signing_at c.args.keys.now c.args.body.now) slots i slot c.loop-slot-test.true (get_or_default slots i none slot c.loop-slot-test.true) c.from_residual-in_err-push.result
    (g.S.Signer.signings c.args.signer.now) (g.S.Signer.signings c.loop-slot.signer) (g.S.Signer.signings c.signature.new.signer) c.from_residual-in_err-push.ensures.0
    c.loop-slot.invariant.asked_so_far
    (length asked, c.in_ok-sig.ensures.asked ∙ ap (after (g.S.Signer.signings c.loop-slot.signer)) (sym (take_all (length asked) asked (omega arith))))

pub returns-clause-asked : goal.returns-clause-asked
returns-clause-asked g c =
    c.loop-slot.invariant.asked_so_far
    ∙ ap (λ slots. after (g.S.Signer.signings c.args.signer.now) (signings_in c.args.keys.now c.args.body.now slots))
    (take_all c.loop-slot.slot-index c.args.slots.now (omega (arith, c.loop-slot-test.false)))
