use Rattle.std.proofs.Common.{◌≡◌, ◌∙◌, ap, subst}
use Rattle.std.specs.Prelude.{slice_get}
use Rattle.validator_core.specs.Acceptance.Footing.{IsFooting}
use Rattle.validator_core.specs.Acceptance.Standing.{told_of}
use Rattle.validator_core.specs.Tables.View.{body_of, log_of}
use Rattle.validator_core.specs.ValidatorCore.Signatures.{good_in}
use Rattle.journal.specs.Journal.Readiness.{good_sigs}
use Rattle.validator_core.proofs.AcceptanceLemmas.Bodies.{at_body}
use Rattle.validator_core.proofs.TableChangesLemmas.Events.{if_ok_then}
use Rattle.validator_core.proofs.ValidatorCoreLemmas.GoodSignatures.{good_behind, good_down, good_first}
use Rattle.validator_core.proofs.validator_core.signatures.signatures_on.Goals as goal

pub returns-in-Some-Inception : goal.returns-in-Some-Inception
returns-in-Some-Inception c =
    let v = c.args.tables.now in
    let e = c.in-Some.event.now in
    if_ok_then c.signatures_behind.result c.signatures_behind.ensures (λ sigs is.
    at_body v.held c.args.number e c.in-Some.ensures (λ b. sigs.items ≡ good_in (told_of v) (log_of v) b)
    (λ bytes at. is bytes at ∙ good_first v (body_of bytes e) (subst (IsFooting (log_of v) v.log (body_of bytes e)) c.in-Some-Inception.field-0-is (c.in-Some-Inception.ensures.some bytes))))

pub returns-in-Some-Behind : goal.returns-in-Some-Behind
returns-in-Some-Behind c =
    let v = c.args.tables.now in
    let e = c.in-Some.event.now in
    let place = c.in-Some-Behind.place in
    let state = c.state.ensures ∙ ap (λ l. slice_get l.states place) c.log.ensures in
    if_ok_then c.signatures_behind-in-Some-Behind.result c.signatures_behind-in-Some-Behind.ensures (λ sigs is.
    at_body v.held c.args.number e c.in-Some.ensures (λ b. sigs.items ≡ good_in (told_of v) (log_of v) b)
    (λ bytes at. is bytes at ∙ ap (λ o. good_sigs (told_of v) o (body_of bytes e)) state ∙ good_behind v (body_of bytes e) place (subst (IsFooting (log_of v) v.log (body_of bytes e)) c.in-Some-Behind.field-0-is (c.in-Some-Behind.ensures.some bytes))))

pub returns-in-None : goal.returns-in-None
returns-in-None c =
    let v = c.args.tables.now in
    let e = c.in-Some.event.now in
    at_body v.held c.args.number e c.in-Some.ensures (λ b. c.new-in-None.result.items ≡ good_in (told_of v) (log_of v) b)
    (λ bytes at. c.new-in-None.ensures.items ∙ good_down v (body_of bytes e) (c.in-None.ensures.none bytes))
