-- Once the signatures in slots that are enough have a yes, the body is signed.
use Rattle.std.proofs.Common.{◌≡◌, ◌==◌, ◌<◌, ℕ, zero, suc, Bool, true, false, ◌&&◌, ◌||◌, not, List, [], ◌∷◌, length, map, Option, Some, None, slice_get, get_or, refl, sym, ◌∙◌, ap, subst, arith, inl, inr}
use Rattle.std.specs.Prelude.{filter, filter_map, flat_map, IfOk, Result, Ok, Err}
use Rattle.std.specs.List.{list_any, AllZip, AllByRecursion}
use Rattle.std.proofs.lemmas.List.{append-nil}
use Rattle.std.proofs.lemmas.Bool.{cases_Bool, and_parts, and_from}
use Rattle.cesr_codes.specs.declared.indexed_sig.IndexedSig.{IndexedSig}
use Rattle.cesr_codes.specs.declared.key.Key.{Key}
use Rattle.cesr_codes.specs.declared.sig.Sig.{Sig}
use Rattle.cesr_codes.specs.declared.digest.Digest.{Digest}
use Rattle.cesr_stream.specs.declared.message.Message.{Message}
use Rattle.cesr_stream.specs.declared.group.Group.TheVariants.{Controller as ControllerGroup}
use Rattle.event_body.specs.declared.event_body.event.Event.{Event}
use Rattle.event_body.specs.declared.event_body.event.Event.TheVariants.{Icp, Rot, Ixn, Dip, Drt, Rct}
use Rattle.event_body.specs.EventBody.Events.{is_rotation}
use Rattle.sith.specs.Tests.{satisfied}
use Rattle.key_state.specs.Exposure.{commits, exposed, numbers_below, opens, own_rules}
use Rattle.key_state.specs.States.{State}
use Rattle.key_state.proofs.Same.{numbers}
use Rattle.journal.specs.declared.journal.body.Body.{Body}
use Rattle.journal.specs.declared.journal.claim.Claim.{Claim}
use Rattle.journal.specs.declared.journal.claim.Claim.TheVariants.{Controller, Witness, Couple}
use Rattle.journal.specs.Journal.History.{Told, claims_on, triple_of}
use Rattle.journal.specs.Journal.Readiness.{good_sigs, held_sig, meets_next, signed, yes_to}
use Rattle.journal.specs.Journal.Replies.{claims_of, claims_of_group}
use Rattle.journal.specs.EventRules.Parts.{has_next, has_own}
use Rattle.controller_core.specs.declared.controller_core.plan_fault.PlanFault.{PlanFault}
use Rattle.controller_core.specs.declared.controller_core.slot.Slot.{Slot}
use Rattle.controller_core.specs.ControllerCore.Slots.{slot_opens, slots_have}
use Rattle.controller_core.specs.ControllerCore.Messages.{event_text, IsInSlot, IsMessageOf}
use Rattle.controller_core.specs.ControllerCore.Signing.{body_of, IsAnswered, IsSignedByYes}
use Rattle.sith.proofs.More.{is_among, more_left, more_satisfied, passes}
use Rattle.controller_core.proofs.ControllerCoreLemmas.Enough.{signed_by_slots}

-- a claim's signature is among those of the claims that pass a test, where the claim is one that does
module _ (yes : Claim → Bool) (test : IndexedSig → Bool) (sig : IndexedSig) (good : yes (Controller sig) ≡ true) (so : test sig ≡ true) where
  found : (claims : List Claim) (k : ℕ) → k < length claims → get_or claims k (Controller sig) ≡ Controller sig → list_any test (filter_map held_sig (filter yes claims)) ≡ true
  found [] k low at = absurd (omega (arith, low))
  found (c ∷ claims) zero low at = subst (λ c. list_any test (filter_map held_sig (filter yes (c ∷ claims))) ≡ true) (sym at) (rw (good, so) refl)
  found (c ∷ claims) (suc k) low at = later c (found claims k (omega (arith, low)) at)
    where
      later : (c : Claim) → list_any test (filter_map held_sig (filter yes claims)) ≡ true → list_any test (filter_map held_sig (filter yes (c ∷ claims))) ≡ true
      later (Controller s) ih = elim (cases_Bool (yes (Controller s))) [
        | inl y ↦ elim (cases_Bool (test s)) [ inl t ↦ rw (y, t) refl | inr t ↦ rw (y, t) ih ]
        | inr n ↦ rw n ih
      ]
      later (Witness s) ih = elim (cases_Bool (yes (Witness s))) [ inl y ↦ rw y ih | inr n ↦ rw n ih ]
      later (Couple key s) ih = elim (cases_Bool (yes (Couple key s))) [ inl y ↦ rw y ih | inr n ↦ rw n ih ]

module _ (told : List Told) (s : Option State) (b : Body) where
  -- an answered signature is a good one
  good_has : (sig : IndexedSig) → IsAnswered told s b (Controller sig) → (test : IndexedSig → Bool) → test sig ≡ true → list_any test (good_sigs told s b) ≡ true
  unfolding good_sigs
  good_has sig answered test so =
      found (λ c. yes_to told (triple_of (own_rules s b.event) b c)) test sig answered.yes so (claims_on told b) answered.stands.0 answered.stands.1 answered.stands.2

  -- where a slot passes one test, and signatures in such slots another, a good signature does
  module _ (gives : Key → List ℕ → Option Sig) (keys : List Key) (in_slot : Slot → Bool) (test : IndexedSig → Bool)
      (each : (slot : Slot) (sig : IndexedSig) → IsInSlot gives keys b.bytes slot sig → in_slot slot ≡ true → test sig ≡ true) where
    any_good : (slots : List Slot) (sigs : List IndexedSig) → AllZip (IsInSlot gives keys b.bytes) slots sigs
        → AllByRecursion (IsAnswered told s b) (map (λ sig. Controller sig) sigs) → list_any in_slot slots ≡ true → list_any test (good_sigs told s b) ≡ true
    any_good [] [] zipped all h = cc h
    any_good [] (sig ∷ sigs) zipped all h = elim zipped [ ]
    any_good (slot ∷ slots) [] zipped all h = elim zipped [ ]
    any_good (slot ∷ slots) (sig ∷ sigs) zipped all h = elim (cases_Bool (in_slot slot)) [
      | inl k ↦ good_has sig all.0 test (each slot sig zipped.0 k)
      | inr k ↦ any_good slots sigs zipped.1 all.1 (rw k at h)
    ]

-- an index is among those of signatures where one has it
any_index : (sigs : List IndexedSig) (n : ℕ) → is_among (map (λ s. s.index) sigs) n ≡ list_any (λ s. s.index == n) sigs
any_index [] n = refl
any_index (s ∷ sigs) n = let ih = any_index sigs n in rw ih refl

-- a signature opens what its slot does
opens_so : (gives : Key → List ℕ → Option Sig) (keys : List Key) (body : List ℕ) (next : List Digest) (own : List Key) (n : ℕ) (slot : Slot) (sig : IndexedSig)
    → IsInSlot gives keys body slot sig → slot_opens next own n slot ≡ true → opens next own n sig ≡ true
opens_so gives keys body next own n slot sig is h = by slot.ondex refl
  where
    by : (o : Option ℕ) → slot.ondex ≡ o → opens next own n sig ≡ true
    by None at = let none : false ≡ true = rw at at h in cc
    by (Some k) at =
        let own_h : ((k == n) && commits (slice_get next n) (slice_get own slot.index)) ≡ true = rw at at h in
        let places = is.ondex ∙ at in
        let same = is.index in
        rw (places, same) own_h

module _ (gives : Key → List ℕ → Option Sig) (told : List Told) (s : Option State) (e : Event) (slots : List Slot) (sigs : List IndexedSig)
    (zipped : AllZip (IsInSlot gives (own_rules s e).keys (event_text e)) slots sigs)
    (all : AllByRecursion (IsAnswered told s (body_of e)) (map (λ sig. Controller sig) sigs)) where
  own_met : has_own (slots_have s e slots) (own_rules s e) ≡ true → satisfied (own_rules s e).kt (length (own_rules s e).keys) (map (λ g. g.index) (good_sigs told s (body_of e))) ≡ true
  unfolding slots_have
  own_met h = more_satisfied _ _ (λ n is.
      any_index (good_sigs told s (body_of e)) n
      ∙ any_good told s (body_of e) gives (own_rules s e).keys (λ slot. slot.index == n) (λ g. g.index == n) (λ slot sig in_slot at. ap (λ m. m == n) in_slot.index ∙ at) slots sigs zipped all
      (passes (λ n. list_any (λ slot. slot.index == n) slots) (numbers_below (length (own_rules s e).keys)) n (λ m. numbers m n) is))
      (own_rules s e).kt (length (own_rules s e).keys) h

next_met : (gives : Key → List ℕ → Option Sig) (told : List Told) (s : Option State) (e : Event) (slots : List Slot) (sigs : List IndexedSig)
    → AllZip (IsInSlot gives (own_rules s e).keys (event_text e)) slots sigs → AllByRecursion (IsAnswered told s (body_of e)) (map (λ sig. Controller sig) sigs)
    → (not (is_rotation e) || has_next (slots_have s e slots) s) ≡ true → (not (is_rotation e) || meets_next s e (good_sigs told s (body_of e))) ≡ true
unfolding slots_have exposed
next_met gives told None e slots sigs zipped all h = h
next_met gives told (Some s) (Icp e) slots sigs zipped all h = h
next_met gives told (Some s) (Ixn e) slots sigs zipped all h = h
next_met gives told (Some s) (Dip e) slots sigs zipped all h = h
next_met gives told (Some s) (Rct e) slots sigs zipped all h = h
next_met gives told (Some s) (Rot e) slots sigs zipped all h =
    more_satisfied _ _
    (more_left (λ n. list_any (slot_opens s.next e.keys n) slots) (λ n. list_any (opens s.next e.keys n) (good_sigs told (Some s) (body_of (Rot e))))
    (λ n has. any_good told (Some s) (body_of (Rot e)) gives e.keys (slot_opens s.next e.keys n) (opens s.next e.keys n)
    (opens_so gives e.keys (event_text (Rot e)) s.next e.keys n) slots sigs zipped all has)
    (numbers_below (length s.next)))
    s.nt (length s.next) h
next_met gives told (Some s) (Drt e) slots sigs zipped all h =
    more_satisfied _ _
    (more_left (λ n. list_any (slot_opens s.next e.keys n) slots) (λ n. list_any (opens s.next e.keys n) (good_sigs told (Some s) (body_of (Drt e))))
    (λ n has. any_good told (Some s) (body_of (Drt e)) gives e.keys (slot_opens s.next e.keys n) (opens s.next e.keys n)
    (opens_so gives e.keys (event_text (Drt e)) s.next e.keys n) slots sigs zipped all has)
    (numbers_below (length s.next)))
    s.nt (length s.next) h

-- the claims of a message with one group
claims_are : (message : Message) (sigs : List IndexedSig) → message.groups ≡ ControllerGroup sigs ∷ [] → claims_of message ≡ map (λ sig. Controller sig) sigs
claims_are message sigs group = ap (flat_map claims_of_group) group ∙ append-nil (map (λ sig. Controller sig) sigs)

-- SIGNED
pub signed_by_yes : (gives : Key → List ℕ → Option Sig) (s : Option State) (e : Event) (slots : List Slot) (message : Message)
    → IsMessageOf gives s e slots message → IsSignedByYes s e message
unfolding signed
signed_by_yes gives s e slots message is told all =
    let has = is.has in
    let each = subst (AllByRecursion (IsAnswered told s (body_of e))) (claims_are message has.sigs has.group) all in
    let both = and_parts (has_own (slots_have s e slots) (own_rules s e)) (not (is_rotation e) || has_next (slots_have s e slots) s) (signed_by_slots s e slots is.signable.enough) in
    and_from _ _ (own_met gives told s e slots has.sigs has.in_slots each both.0) (next_met gives told s e slots has.sigs has.in_slots each both.1)

pub signed_where_ok : (gives : Key → List ℕ → Option Sig) (s : Option State) (e : Event) (slots : List Slot) (answer : Result Message PlanFault)
    → IfOk answer (IsMessageOf gives s e slots) → IfOk answer (IsSignedByYes s e)
signed_where_ok gives s e slots (Ok message) is = signed_by_yes gives s e slots message is
signed_where_ok gives s e slots (Err fault) is = tt
