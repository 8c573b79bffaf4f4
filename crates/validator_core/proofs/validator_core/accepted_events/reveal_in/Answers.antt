use Rattle.std.proofs.Common.{◌≡◌, ℕ, refl, sym, ◌∙◌, ap, subst}
use Rattle.std.specs.Prelude.{Some, slice_get}
use Rattle.validator_core.specs.Tables.AcceptedLog.Cuts.{IsLog}
use Rattle.validator_core.specs.Tables.View.{body_of, log_of}
use Rattle.journal.specs.EventRules.Additions.{is_number}
use Rattle.journal_views.specs.EventPayload.Kept.{state_under}
use Rattle.validator_core.specs.ValidatorCore.Signatures.{opens_under}
use Rattle.validator_core.proofs.AcceptanceLemmas.Bodies.{at_body}
use Rattle.validator_core.proofs.ValidatorCoreLemmas.Under.{accepted_at, opens_both}
use Rattle.validator_core.proofs.validator_core.accepted_events.reveal_in.Goals as goal

pub returns : goal.returns
returns c =
    let v = c.args.tables.now in
    let e = c.in-Some-event.event.now in
    let number = c.in-Some.number in
    let place = c.args.place in
    let sig = c.args.sig.now in
    let logged = subst (λ l. IsLog (log_of v) l) (sym c.log-2.ensures) c.requires.log in
    λ b at. at_body v.held number e c.in-Some-event.ensures (λ b. slice_get (log_of v) place ≡ Some b → (n : ℕ) → is_number c.reveal_of.result n ≡ opens_under (log_of v) b n sig)
    (λ bytes held there n. c.reveal_of.ensures n ∙ opens_both _ (state_under (log_of v) (body_of bytes e)) (c.state_before.ensures.alike (log_of v) (body_of bytes e) logged c.requires.grown there refl) e n sig)
    b
    (accepted_at v c.requires place number b (sym (c.in-Some.ensures ∙ ap (λ ns. slice_get ns place) (c.numbers.ensures ∙ ap (λ l. l.numbers) c.log.ensures))) at)
    at
