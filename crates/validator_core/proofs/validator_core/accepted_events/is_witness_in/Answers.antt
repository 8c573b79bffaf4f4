use Rattle.std.proofs.Common.{◌≡◌, refl, sym, ◌∙◌, ap, subst}
use Rattle.std.specs.Prelude.{Some, slice_get}
use Rattle.validator_core.specs.Tables.AcceptedLog.Cuts.{IsLog}
use Rattle.validator_core.specs.Tables.View.{body_of, log_of}
use Rattle.journal_views.specs.EventPayload.Kept.{state_under}
use Rattle.validator_core.specs.ValidatorCore.Signatures.{is_witness_under}
use Rattle.key_state.specs.Same.{has_key}
use Rattle.validator_core.proofs.AcceptanceLemmas.Bodies.{at_body}
use Rattle.validator_core.proofs.ValidatorCoreLemmas.Under.{accepted_at, rules_both}
use Rattle.validator_core.proofs.validator_core.accepted_events.is_witness_in.Goals as goal

pub returns : goal.returns
returns c =
    let v = c.args.tables.now in
    let e = c.in-Some-event.event.now in
    let n = c.in-Some.number in
    let place = c.args.place in
    let logged = subst (λ l. IsLog (log_of v) l) (sym c.log-2.ensures) c.requires.log in
    λ b at. at_body v.held n e c.in-Some-event.ensures (λ b. slice_get (log_of v) place ≡ Some b → c.has_witness.result ≡ is_witness_under (log_of v) b c.args.key.now)
    (λ bytes held there. c.has_witness.ensures ∙ ap (λ r. has_key r.witnesses c.args.key.now) (rules_both _ (state_under (log_of v) (body_of bytes e)) (c.state_before.ensures.alike (log_of v) (body_of bytes e) logged c.requires.grown there refl) e))
    b
    (accepted_at v c.requires place n b (sym (c.in-Some.ensures ∙ ap (λ ns. slice_get ns place) (c.numbers.ensures ∙ ap (λ l. l.numbers) c.log.ensures))) at)
    at
