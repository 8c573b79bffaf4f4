-- An event with the digest of its own text has no fault in its digest.
use Rattle.std.proofs.Common.{◌≡◌, ◌≢◌, ◌⊎◌, sym, ap, subst, ◌∙◌, inl, inr, ℕ, List, Result, Ok, Err}
use Rattle.std.specs.Prelude.{IfOk, IfErr}
use Rattle.cesr_codes.specs.declared.digest.Digest.{Digest}
use Rattle.cesr_codes.specs.declared.digest.DigestCode.{DigestCode}
use Rattle.cesr_codes.specs.declared.prefix.Prefix.{Prefix}
use Rattle.cesr_codes.specs.declared.prefix.Prefix.TheVariants.{Basic, Said as SaidPrefix}
use Rattle.cesr_codes.specs.Spelling.{IsDigest, IsPrefix}
use Rattle.said_digest.specs.Digests.{digest_of}
use Rattle.event_body.specs.declared.event_body.event.Event.{Event}
use Rattle.event_body.specs.declared.event_body.event.Event.TheVariants.{Icp, Rot, Ixn, Dip, Drt, Rct}
use Rattle.event_body.specs.declared.event_body.inception.Inception.{Inception}
use Rattle.event_body.specs.declared.event_body.rotation.Rotation.{Rotation}
use Rattle.event_body.specs.declared.event_body.body_fault.BodyFault.TheVariants.{Said, TooLarge}
use Rattle.event_body.specs.declared.event_body.body_fault.ReadBody.{ReadBody}
use Rattle.event_body.specs.declared.event_body.body_fault.ReadBody.TheVariants.{Fault, OutOfMemory}
use Rattle.event_body.specs.EventBody.Typed.{IsTyped, IsTypedInception, IsTypedRotation}
use Rattle.event_body.specs.EventBody.Judging.{IsFirstFault, IsSpelled}
use Rattle.event_body.specs.EventBody.Rules.{digested_text, HasSaid}
use Rattle.event_body.specs.EventBody.Spelling.{text_of}
use Rattle.event_body.specs.EventWriting.Faults.{IsFaultOf, IsLengthFault}
use Rattle.event_body.specs.EventWriting.Sealed.{sealed_prefix, with_digest, digest_in, sealed_event}
use Rattle.event_body.specs.EventWriting.Writable.{IsWritable, HasOwnThresholds}
use Rattle.event_body.proofs.EventWritingLemmas.Digested.{same_digested}
use Rattle.event_body.proofs.EventWritingLemmas.Read.{event_again, no_other}

-- the parts stay in the ranges of their types
prefix_held : (prefix : Prefix) (digest : Digest) → IsPrefix prefix → IsDigest digest → IsPrefix (sealed_prefix prefix digest)
prefix_held (Basic key) digest held valid = held
prefix_held (SaidPrefix other) digest held valid = valid

inception_held : (digest : Digest) (e : Inception) → IsDigest digest → IsTypedInception e → IsTypedInception (record e { said = digest; prefix = sealed_prefix e.prefix digest })
inception_held digest e valid held = record {
  said = valid;
  prefix = prefix_held e.prefix digest held.prefix valid;
  keys = held.keys;
  next = held.next;
  toad = held.toad;
  list = held.list;
  delegator = held.delegator;
}

rotation_held : (digest : Digest) (e : Rotation) → IsDigest digest → IsTypedRotation e → IsTypedRotation (record e { said = digest })
rotation_held digest e valid held = record {
  said = valid;
  prefix = held.prefix;
  sn = held.sn;
  prior = held.prior;
  keys = held.keys;
  next = held.next;
  toad = held.toad;
  cuts = held.cuts;
  adds = held.adds;
}

still_held : (digest : Digest) (event : Event) → IsDigest digest → IsTyped event → IsTyped (with_digest digest event)
still_held digest (Icp e) valid held = inception_held digest e valid held
still_held digest (Dip e) valid held = inception_held digest e valid held
still_held digest (Rot e) valid held = rotation_held digest e valid held
still_held digest (Drt e) valid held = rotation_held digest e valid held
still_held digest (Ixn e) valid held = record { said = valid; prefix = held.prefix; sn = held.sn; prior = held.prior }
still_held digest (Rct receipt) valid held = held

-- the digest leaves the rest
pub still_writable : (digest : Digest) (event : Event) → IsWritable event → IsWritable (with_digest digest event)
still_writable digest (Icp e) writable = writable
still_writable digest (Rot e) writable = writable
still_writable digest (Ixn e) writable = writable
still_writable digest (Dip e) writable = writable
still_writable digest (Drt e) writable = writable
still_writable digest (Rct receipt) writable = writable

still_own : (digest : Digest) (event : Event) → HasOwnThresholds event → HasOwnThresholds (with_digest digest event)
still_own digest (Icp e) own = own
still_own digest (Rot e) own = own
still_own digest (Ixn e) own = own
still_own digest (Dip e) own = own
still_own digest (Drt e) own = own
still_own digest (Rct receipt) own = own

-- the rule of digests of such an event
has_said : (digest : Digest) (event : Event) → digest ≡ digest_of digest.code (digested_text (with_digest digest event)) → HasSaid (with_digest digest event)
has_said digest (Icp e) is = is
has_said digest (Rot e) is = is
has_said digest (Ixn e) is = is
has_said digest (Dip e) is = is
has_said digest (Drt e) is = is
has_said digest (Rct receipt) is = tt

module _ (code : DigestCode) (event : Event) (held : IsTyped event) (own : HasOwnThresholds event) (writable : IsWritable event) (valid : IsDigest (digest_in code event)) where
  abbrev digest : Digest
  digest = digest_in code event

  own_said : HasSaid (sealed_event code event)
  own_said = has_said digest event (ap (digest_of code) (sym (same_digested digest event)))

  no_said_fault : ¬ IsFirstFault (text_of (sealed_event code event)) Said
  no_said_fault (few, (other, has, (witnesses, prefix, none))) =
      let same = event_again (sealed_event code event) (still_held digest event valid held) (still_own digest event own) (still_writable digest event writable) other has in
      none (subst HasSaid (sym same) own_said)

  pub not_said : (r : Result Event ReadBody) → IfErr r (λ fault. IsFaultOf (sealed_event code event) fault) → r ≢ Err (Fault Said)
  not_said (Ok e) faulty is = cc is
  not_said (Err fault) faulty is = let same : fault ≡ Fault Said = cc is in no_said_fault (subst (IsFaultOf (sealed_event code event)) same faulty)

-- a text that is too large has no such fault
pub large_not_said : (text : List ℕ) (fault : ReadBody) → IsLengthFault text fault → fault ≢ Fault Said
large_not_said text (Fault fault) large is = let same : Fault TooLarge ≡ Fault Said = ap Fault (sym large.0) ∙ is in cc same
large_not_said text OutOfMemory large is = cc is

-- what sealing answers, where a body spells the sealed event
pub answered_whole : (event : Event) (r : Result Event ReadBody) → IfOk r (λ e. e ≡ event) → IfErr r (λ fault. IsFaultOf event fault) → IsSpelled event → (r ≡ Ok event) ⊎ (r ≡ Err OutOfMemory)
answered_whole event (Ok e) is faulty spelled = inl (ap Ok is)
answered_whole event (Err fault) is faulty spelled = inr (ap Err (no_other event spelled.0 spelled.1 spelled.2 fault faulty))
