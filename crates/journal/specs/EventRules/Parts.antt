-- What the yes verdicts on an event add up to, as a set of parts, and what the event wants of such a set (KERI: signing
-- thresholds, pre-rotation, receipts).
use Rattle.std.specs.Prelude.{ℕ, Bool, true, false, ◌&&◌, ◌||◌, ◌==◌, not, nat_le, List, length, filter, slice_get, Option, Some, None}
use Rattle.std.specs.List.{list_any}
use Rattle.cesr_codes.specs.declared.indexed_sig.IndexedSig.{IndexedSig}
use Rattle.cesr_codes.specs.declared.key.Key.{Key}
use Rattle.cesr_codes.specs.declared.sig.Sig.{Sig}
use Rattle.event_body.specs.declared.event_body.event.Event.{Event}
use Rattle.event_body.specs.declared.event_body.event.Event.TheVariants.{Icp, Rot, Ixn, Dip, Drt, Rct}
use Rattle.event_body.specs.EventBody.Events.{is_rotation}
use Rattle.sith.specs.Tests.{satisfied}
use Rattle.key_state.specs.Exposure.{Rules, own_rules, opens, numbers_below}
use Rattle.key_state.specs.Same.{same_key}
use Rattle.key_state.specs.States.{State}
use Rattle.journal.specs.declared.journal.body.Body.{Body}
use Rattle.journal.specs.declared.journal.claim.Claim.{Claim}
use Rattle.journal.specs.Journal.History.{Told, claimed_sig, claims_on, said_yes}
use Rattle.journal.specs.Journal.Readiness.{backs}
use Rattle.journal.specs.EventRules.Claims.{is_held_as, is_held_so, is_so}

-- a good signature of the controller has this index; one opens the commitment of this number; the witness of this number
-- has a yes
pub data Part : Type 0 where
  index : ℕ → Part
  reveal : ℕ → Part
  backer : ℕ → Part

-- the signature opens the commitment of a number, where the event is a rotation behind a state (KERI, pre-rotation)
abbrev pub opens_at : Option State → Event → ℕ → IndexedSig → Bool
opens_at None e n sig = false
opens_at (Some s) (Rot e) n sig = opens s.next e.keys n sig
opens_at (Some s) (Drt e) n sig = opens s.next e.keys n sig
opens_at (Some s) (Icp e) n sig = false
opens_at (Some s) (Ixn e) n sig = false
opens_at (Some s) (Dip e) n sig = false
opens_at (Some s) (Rct e) n sig = false

-- the parts of some claims on an event behind a state, by what verifiers say; claims back nothing, verdicts do
abbrev pub parts_in : (Key → Sig → Bool) → Option State → Event → List Claim → Part → Bool
parts_in says s e claims (index n) = list_any (is_held_so says (own_rules s e) (λ g. g.index == n)) claims
parts_in says s e claims (reveal n) = list_any (is_held_so says (own_rules s e) (opens_at s e n)) claims
parts_in says s e claims (backer n) = false

-- the parts of an event behind a state: those of the claims on it, and the witnesses of its own list that back it
abbrev pub parts_by : (Key → Sig → Bool) → (Key → Bool) → Option State → Event → List Claim → Part → Bool
parts_by says by s e claims (index n) = parts_in says s e claims (index n)
parts_by says by s e claims (reveal n) = parts_in says s e claims (reveal n)
parts_by says by s e claims (backer n) = is_so by (slice_get (own_rules s e).witnesses n)

-- a verdict says yes of the key's signature on the body
abbrev pub says_of : List Told → Body → Key → Sig → Bool
says_of told b key sig = said_yes told (record { body = b.bytes; key = key; sig = sig })

-- SUPPORT: the parts of a body behind a state, by all claims on it and all verdicts
unfoldable pub supports : List Told → Option State → Body → Part → Bool
supports told s b p = parts_by (says_of told b) (backs told b) s b.event (claims_on told b) p

-- a claim and its key
pub record Row : Type 0 where
  pub claim : Claim
  pub key : Key

-- the claim brings a part, where its signature has a yes
abbrev pub brings : (Key → Sig → Bool) → Option State → Event → Part → Row → Bool
brings says s e (index n) r = says r.key (claimed_sig r.claim) && is_held_as (λ g. g.index == n) r.claim
brings says s e (reveal n) r = says r.key (claimed_sig r.claim) && is_held_as (opens_at s e n) r.claim
brings says s e (backer n) r = false

-- what a yes on the claim brings: the parts of the claim, and the witnesses of the event's own list that have its key
abbrev pub brings_all : Option State → Event → Row → Part → Bool
brings_all s e r (index n) = brings (λ key sig. true) s e (index n) r
brings_all s e r (reveal n) = brings (λ key sig. true) s e (reveal n) r
brings_all s e r (backer n) = is_so (same_key r.key) (slice_get (own_rules s e).witnesses n)

-- the parts are enough: of the signing threshold, of the commitments, of the witnesses
abbrev pub has_own : (Part → Bool) → Rules → Bool
has_own has rules = satisfied rules.kt (length rules.keys) (filter (λ n. has (index n)) (numbers_below (length rules.keys)))

abbrev pub has_next : (Part → Bool) → Option State → Bool
has_next has None = false
has_next has (Some s) = satisfied s.nt (length s.next) (filter (λ n. has (reveal n)) (numbers_below (length s.next)))

abbrev pub has_signed : (Part → Bool) → Option State → Event → Bool
has_signed has s e = has_own has (own_rules s e) && (not (is_rotation e) || has_next has s)

abbrev pub has_backed : (Part → Bool) → Rules → Bool
has_backed has rules = nat_le rules.toad (length (filter (λ n. has (backer n)) (numbers_below (length rules.witnesses))))
