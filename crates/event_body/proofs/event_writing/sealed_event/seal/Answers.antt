use Rattle.std.proofs.Common.{◌≡◌, IfOk, IfErr, ap, subst, ◌∙◌}
use Rattle.cesr_codes.specs.Spelling.{IsDigest}
use Rattle.said_digest.specs.Digests.{digest_of}
use Rattle.event_body.specs.declared.event_body.body_fault.BodyFault.TheVariants.{Said}
use Rattle.event_body.specs.declared.event_body.body_fault.ReadBody.TheVariants.{Fault}
use Rattle.event_body.specs.EventBody.Rules.{digested_text}
use Rattle.event_body.specs.EventWriting.Faults.{IsFaultOf}
use Rattle.event_body.specs.EventWriting.Sealed.{digest_in, sealed_event, with_digest}
use Rattle.event_body.proofs.EventWritingLemmas.Digested.{text_long}
use Rattle.event_body.proofs.EventWritingLemmas.OwnDigest.{large_not_said, not_said}
use Rattle.event_body.proofs.EventWritingLemmas.Read.{too_large}
use Rattle.event_body.proofs.event_writing.sealed_event.seal.Goals as goal

pub returns-in-Err-clause-fault : goal.returns-in-Err-clause-fault
returns-in-Err-clause-fault c =
    too_large (sealed_event c.args.code c.args.event.now) (digested_text c.args.event.now) c.in-Err.fault (text_long (digest_in c.args.code c.args.event.now) c.args.event.now) c.in-Err.ensures.large

pub returns-in-Ok-clause-sealed : goal.returns-in-Ok-clause-sealed
returns-in-Ok-clause-sealed c =
    let said = c.digest_of.ensures.digest ∙ ap (digest_of c.args.code) (c.deref.ensures.value ∙ c.in-Ok.ensures.text.0) in
    subst (λ digest. IfOk c.sealed_with.result (λ sealed. sealed ≡ with_digest digest c.args.event.now)) said c.sealed_with.ensures.sealed

pub returns-in-Ok-clause-fault : goal.returns-in-Ok-clause-fault
returns-in-Ok-clause-fault c =
    let said = c.digest_of.ensures.digest ∙ ap (digest_of c.args.code) (c.deref.ensures.value ∙ c.in-Ok.ensures.text.0) in
    subst (λ digest. IfErr c.sealed_with.result (λ fault. IsFaultOf (with_digest digest c.args.event.now) fault)) said c.sealed_with.ensures.fault

pub returns-in-Err-clause-said : goal.returns-in-Err-clause-said
returns-in-Err-clause-said c = λ is. let same : c.in-Err.fault ≡ Fault Said = cc is in large_not_said (digested_text c.args.event.now) c.in-Err.fault c.in-Err.ensures.large same

pub returns-in-Ok-clause-said : goal.returns-in-Ok-clause-said
returns-in-Ok-clause-said c =
    let said = c.digest_of.ensures.digest ∙ ap (digest_of c.args.code) (c.deref.ensures.value ∙ c.in-Ok.ensures.text.0) in
    not_said c.args.code c.args.event.now c.in_range.ensures.typed c.in_range.ensures.thresholds c.requires (subst IsDigest said c.digest_of.ensures.valid) c.sealed_with.result
    (subst (λ digest. IfErr c.sealed_with.result (λ fault. IsFaultOf (with_digest digest c.args.event.now) fault)) said c.sealed_with.ensures.fault)
