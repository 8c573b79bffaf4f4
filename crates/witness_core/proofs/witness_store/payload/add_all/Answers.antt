use Rattle.std.proofs.Common.{sym, subst, ap, ◌∙◌, ◌++◌, ◌∷◌, [], take}
use Rattle.std.proofs.lemmas.List.{take_more}
use Rattle.journal_views.specs.EventPayload.Holding.{HasKept}
use Rattle.journal_views.specs.EventPayload.Kept.{state_under}
use Rattle.journal_views.proofs.EventPayloadLemmas.Reveals.{reveal_is}
use Rattle.validator_core.specs.ValidatorCore.View.{accepted_by}
use Rattle.witness_core.proofs.witness_store.payload.add_all.Goals as goal

pub loop-sig-preserved : goal.loop-sig-preserved
loop-sig-preserved c = λ b at first.
    let s = state_under (accepted_by c.args.core.now) b in
    let before = take c.loop-sig.sig-index c.args.sigs.now in
    let reveal = reveal_is s b.event c.sig-item.result c.reveal_at.result (c.reveal_at.ensures b at) in
    subst (λ l. HasKept s b.event l c.add.new.self) (sym (take_more c.args.sigs.now c.loop-sig.sig-index c.sig-item.result c.loop-sig-test.true ∙ ap (λ x. before ++ x ∷ []) (sym c.sig-item.is)))
    (c.in_ok-add.ensures.kept s b.event before reveal (c.loop-sig.invariant b at first))
