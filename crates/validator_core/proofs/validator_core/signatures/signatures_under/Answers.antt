use Rattle.std.proofs.Common.{◌≡◌, refl, sym, ◌∙◌, ap, subst}
use Rattle.std.specs.Prelude.{Some, slice_get}
use Rattle.validator_core.specs.Tables.AcceptedLog.Cuts.{IsLog}
use Rattle.validator_core.specs.Acceptance.Standing.{told_of}
use Rattle.validator_core.specs.Tables.View.{body_of, log_of}
use Rattle.journal_views.specs.EventPayload.Kept.{state_under}
use Rattle.validator_core.specs.ValidatorCore.Signatures.{good_under}
use Rattle.validator_core.proofs.AcceptanceLemmas.Bodies.{at_body}
use Rattle.validator_core.proofs.TableChangesLemmas.Events.{if_ok_then}
use Rattle.validator_core.proofs.ValidatorCoreLemmas.Under.{accepted_at, good_both}
use Rattle.validator_core.proofs.validator_core.signatures.signatures_under.Goals as goal

pub returns : goal.returns
returns c =
    let v = c.args.tables.now in
    let e = c.in-Some-event.event.now in
    let n = c.in-Some.number in
    let place = c.args.place in
    let logged = subst (λ l. IsLog (log_of v) l) (sym c.log-2.ensures) c.requires.log in
    if_ok_then c.signatures_behind.result c.signatures_behind.ensures (λ sigs is b at.
    at_body v.held n e c.in-Some-event.ensures (λ b. slice_get (log_of v) place ≡ Some b → sigs.items ≡ good_under (told_of v) (log_of v) b)
    (λ bytes held there. is bytes held ∙ good_both (told_of v) _ (state_under (log_of v) (body_of bytes e)) (body_of bytes e) (c.state_before-state.ensures.alike (log_of v) (body_of bytes e) logged c.requires.grown there refl))
    b
    (accepted_at v c.requires place n b (sym (c.in-Some.ensures ∙ ap (λ ns. slice_get ns place) (c.numbers.ensures ∙ ap (λ l. l.numbers) c.log.ensures))) at)
    at)
