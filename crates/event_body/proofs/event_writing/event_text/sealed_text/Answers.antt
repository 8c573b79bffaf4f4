use Rattle.std.proofs.Common.{◌≡◌, IfOk, IfErr, ap, subst, ◌∙◌}
use Rattle.said_digest.specs.Digests.{digest_of}
use Rattle.event_body.specs.EventBody.Rules.{digested_text}
use Rattle.event_body.specs.EventBody.Spelling.{text_of}
use Rattle.event_body.specs.EventWriting.Faults.{IsLengthFault}
use Rattle.event_body.specs.EventWriting.Sealed.{digest_in, sealed_event, with_digest}
use Rattle.event_body.proofs.EventWritingLemmas.Digested.{text_long}
use Rattle.event_body.proofs.EventWritingLemmas.Read.{as_large}
use Rattle.event_body.proofs.event_writing.event_text.sealed_text.Goals as goal

pub returns-in-Err-clause-large : goal.returns-in-Err-clause-large
returns-in-Err-clause-large c =
    as_large (text_of (sealed_event c.args.code c.args.event.now)) (digested_text c.args.event.now) c.in-Err.fault (text_long (digest_in c.args.code c.args.event.now) c.args.event.now) c.in-Err.ensures.large

pub returns-in-Ok-clause-event : goal.returns-in-Ok-clause-event
returns-in-Ok-clause-event c =
    let said = c.digest_of.ensures.digest ∙ ap (digest_of c.args.code) (c.deref.ensures.value ∙ c.in-Ok.ensures.text.0) in
    subst (λ digest. IfOk c.text_with.result (λ made. made.event ≡ with_digest digest c.args.event.now)) said c.text_with.ensures.event

pub returns-in-Ok-clause-text : goal.returns-in-Ok-clause-text
returns-in-Ok-clause-text c =
    let said = c.digest_of.ensures.digest ∙ ap (digest_of c.args.code) (c.deref.ensures.value ∙ c.in-Ok.ensures.text.0) in
    subst (λ digest. IfOk c.text_with.result (λ made. made.text.items ≡ text_of (with_digest digest c.args.event.now))) said c.text_with.ensures.text

pub returns-in-Ok-clause-large : goal.returns-in-Ok-clause-large
returns-in-Ok-clause-large c =
    let said = c.digest_of.ensures.digest ∙ ap (digest_of c.args.code) (c.deref.ensures.value ∙ c.in-Ok.ensures.text.0) in
    subst (λ digest. IfErr c.text_with.result (λ fault. IsLengthFault (text_of (with_digest digest c.args.event.now)) fault)) said c.text_with.ensures.large
