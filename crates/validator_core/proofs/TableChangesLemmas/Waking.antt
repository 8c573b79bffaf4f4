-- What waits, and what an accepted event wakes.
use Rattle.std.proofs.Common.{◌≡◌, ℕ, zero, suc, Bool, true, false, ◌&&◌, ◌||◌, not, ◌==◌, ◌⊎◌, List, [], ◌∷◌, ◌++◌, arith, Option, Some, None, refl, sym, ◌∙◌, ap, subst, inl, inr, if◌then◌else◌}
use Rattle.std.specs.Prelude.{slice_get, take, filter_map, IsTrue}
use Rattle.std.specs.List.{list_any, cons_option}
use Rattle.std.proofs.lemmas.Bool.{and_from, and_parts, cases_Bool, not-true, or_cases, or_parts}
use Rattle.cesr_codes.specs.declared.prefix.Prefix.{Prefix}
use Rattle.event_body.specs.EventBody.Events.{is_receipt, prefix_of, prior_of, said_of, sn_of, is_delegated}
use Rattle.event_body.specs.EventBody.Judging.{SpellsEvent}
use Rattle.event_body.specs.declared.event_body.event.Event.{Event}
use Rattle.event_body.specs.declared.event_body.event.Event.TheVariants.{Icp, Rot, Ixn, Dip, Drt, Rct}
use Rattle.event_backing.specs.EventSeals.{IsEventSeal}
use Rattle.escrow.specs.Escrow.Escrow.{Escrow, held as held_by}
use Rattle.journal.specs.declared.journal.body.Body.{Body}
use Rattle.journal.specs.declared.journal.mode.Mode.{Mode}
use Rattle.journal.specs.Journal.Grown.{fits}
use Rattle.journal.specs.Journal.History.{Told}
use Rattle.journal.specs.Journal.Journals.{chosen}
use Rattle.journal.specs.Journal.Logs.{is_in, precedes, same_body, state, takes}
use Rattle.journal.specs.Journal.Readiness.{is_local, is_ready}
use Rattle.journal.specs.Journal.Seals.{delegator_of, seals}
use Rattle.journal.proofs.JournalLemmas.Accepting.{same_body-refl}
use Rattle.journal.proofs.JournalLemmas.Settling.{outside}
use Rattle.key_state.proofs.Same.{numbers}
use Rattle.claim_table.specs.CoreLaws.Waking.{holds_first_seal, is_anchored, is_there, is_waiting, may_wake, seals_first, wakes}
use Rattle.validator_core.specs.Acceptance.Standing.{AreSoundTables}
use Rattle.validator_core.proofs.AcceptanceLemmas.NewEvent.{precedes_some}
use Rattle.validator_core.specs.Tables.Hints.{IsEscrow}
use Rattle.validator_core.specs.Tables.View.{View, body_of, log_of, waiter_at, waiter_of}
use Rattle.validator_core.proofs.AcceptanceLemmas.Bodies.{waits_is}
use Rattle.validator_core.specs.TableChanges.Awaited.{IsNextAt, is_awaited, is_awaited_there}

-- a number that is chosen has its body among the chosen
pub chosen_number : (held : List Body) (ns : List ℕ) (n : ℕ) (b : Body) → slice_get held n ≡ Some b → list_any (λ m. m == n) ns ≡ true → is_in (chosen held ns) b ≡ true
unfolding chosen
chosen_number held [] n b at h = cc
chosen_number held (m ∷ ns) n b at h = elim (cases_Bool (m == n)) [
  | inl k ↦ (let here : slice_get held m ≡ Some b = ap (slice_get held) (numbers m n k) ∙ at in let same = same_body-refl b in rw (here, same) refl)
  | inr k ↦ more (slice_get held m) (chosen_number held ns n b at (ap (λ y. y || list_any (λ m. m == n) ns) (sym k) ∙ h))
]
  where
    more : (o : Option Body) → is_in (filter_map (λ k. slice_get held k) ns) b ≡ true → is_in (cons_option o (filter_map (λ k. slice_get held k) ns)) b ≡ true
    more None h = h
    more (Some c) h = elim (cases_Bool (same_body c b)) [ inl k ↦ rw k refl | inr k ↦ rw k h ]

not_taken : (k : ℕ) (xs : List ℕ) (n : ℕ) → list_any (λ m. m == n) xs ≡ false → list_any (λ m. m == n) (take k xs) ≡ false
not_taken zero xs n h = refl
not_taken (suc k) [] n h = refl
not_taken (suc k) (x ∷ xs) n h = let parts = or_parts (x == n) (list_any (λ m. m == n) xs) h in rw (parts.0, not_taken k xs n parts.1) refl

-- what waits is not among the accepted numbers, and is in the escrow
pub not_accepted : (held : List Body) (ns : List ℕ) (n : ℕ) (b : Body) → slice_get held n ≡ Some b → is_in (chosen held ns) b ≡ false → list_any (λ m. m == n) ns ≡ false
not_accepted held ns n b at out = elim (cases_Bool (list_any (λ m. m == n) ns)) [
  | inr none ↦ none
  | inl some ↦ (let inside = chosen_number held ns n b at some in cc)
]

pub waits_there : (w : Escrow) (held : List Body) (released : ℕ) (ns : List ℕ) (n : ℕ) (b : Body) → IsEscrow w held (take released ns) → slice_get held n ≡ Some b → is_waiting (chosen held ns) b ≡ true
    → held_by n w ≡ Some (waiter_of n b.event)
unfolding waiter_at
waits_there w held released ns n b escrow at waits =
    let parts = and_parts (not (is_receipt b.event)) (not (is_in (chosen held ns) b)) waits in
    let event = not-true _ parts.0 in let out = not_accepted held ns n b at (not-true _ parts.1) in
    escrow n ∙ ap (waiter_at (take released ns) n) at
    ∙ ap (λ y. if y || list_any (λ m. m == n) (take released ns) then None else Some (waiter_of n b.event)) event
    ∙ ap (λ y. if y then None else Some (waiter_of n b.event)) (not_taken released ns n out)

-- what waits behind one more event waited before
pub waited : (log : List Body) (c b : Body) → is_waiting (log ++ c ∷ []) b ≡ true → is_waiting log b ≡ true
waited log c b waits =
    let parts = and_parts (not (is_receipt b.event)) (not (is_in (log ++ c ∷ []) b)) waits in
    let event = parts.0 in let out = outside (λ x. same_body x b) log (c ∷ []) parts.1 in rw (event, out) refl

-- WOKEN: it names the event's digest as the one before it, or is sealed by the event, where seals are waited for
pub woken : (mode : Mode) (log : List Body) (c b : Body) → may_wake mode log c b ≡ true
    → (is_waiting log b ≡ true) × ((prior_of b.event ≡ Some (said_of c.event)) ⊎ ((is_local mode ≡ false) × (seals c.event b.event ≡ true)))
woken mode log c b wakes =
    let parts = and_parts (is_waiting (log ++ c ∷ []) b) (precedes b c || (not (is_local mode) && seals_first log c b)) wakes in (
      waited log c b parts.0,
      elim (or_cases (precedes b c) (not (is_local mode) && seals_first log c b) parts.1) [
        | inl right ↦ inl (precedes_some b c right).0
        | inr sealing ↦ (let two = and_parts (not (is_local mode)) (seals_first log c b) sealing in
            inr (not-true _ two.0, holds (delegator_of (state log (prefix_of b.event)) b.event) (and_parts (is_delegated b.event) _ two.1).1))
      ],
    )
  where
    holds : (o : Option Prefix) → holds_first_seal log c b o ≡ true → seals c.event b.event ≡ true
    holds None h = cc
    holds (Some d) h = (and_parts _ (seals c.event b.event) (and_parts _ _ h).0).1

-- the name of an event that a body spells is an event seal
pub own_seal : (e : Event) (bytes : List ℕ) → SpellsEvent e bytes → IsEventSeal (record { prefix = prefix_of e; sn = sn_of e; said = said_of e })
own_seal (Icp e) bytes spells = let r = spells.has.ranges in record { prefix = r.prefix_held; sn = omega arith; said = r.said_held }
own_seal (Dip e) bytes spells = let r = spells.has.ranges in record { prefix = r.prefix_held; sn = omega arith; said = r.said_held }
own_seal (Rot e) bytes spells = let r = spells.has.ranges in record { prefix = r.prefix_held; sn = r.sn_held; said = r.said_held }
own_seal (Drt e) bytes spells = let r = spells.has.ranges in record { prefix = r.prefix_held; sn = r.sn_held; said = r.said_held }
own_seal (Ixn e) bytes spells = let r = spells.has.ranges in record { prefix = r.prefix_held; sn = r.sn_held; said = r.said_held }
own_seal (Rct e) bytes spells = let r = spells.has.ranges in record { prefix = r.prefix_held; sn = r.sn_held; said = r.said_held }

-- READY: what is ready fits
pub ready_fits : (mode : Mode) (told : List Told) (log : List Body) (b : Body) → is_ready mode told log b ≡ true → IsTrue (fits log b)
unfolding is_ready fits
ready_fits mode told log b ready =
    let parts = and_parts (not (is_receipt b.event) && not (is_in log b)) _ ready in
    let front = parts.0 in let taken = (and_parts (takes (state log (prefix_of b.event)) b.event) _ (and_parts _ _ parts.1).0).0 in
    rw (front, taken) refl

-- what waits isn't among the accepted numbers
pub due_is : (held : List Body) (ns : List ℕ) (n : ℕ) (b : Body) (there anchored : Bool) → slice_get held n ≡ Some b → (is_waiting (chosen held ns) b && there && anchored) ≡ true
    → (not (list_any (λ m. m == n) ns) && (there && anchored)) ≡ true
due_is held ns n b there anchored at all =
    let parts = and_parts (is_waiting (chosen held ns) b && there) anchored all in
    let front = and_parts (is_waiting (chosen held ns) b) there parts.0 in
    let out = not_accepted held ns n b at (not-true _ (and_parts (not (is_receipt b.event)) (not (is_in (chosen held ns) b)) front.0).1) in
    rw (out, front.1, parts.1) refl

-- NEXT: what waits for an event is no receipt, and is woken where it is next behind that event
waiter_event : (mode : Mode) (log : List Body) (c : Body) (bytes : List ℕ) (e : Event) → is_awaited mode log c (body_of bytes e) ≡ true → not (is_receipt e) ≡ true
waiter_event mode log c bytes (Icp e) h = refl
waiter_event mode log c bytes (Rot e) h = refl
waiter_event mode log c bytes (Ixn e) h = refl
waiter_event mode log c bytes (Dip e) h = refl
waiter_event mode log c bytes (Drt e) h = refl
waiter_event mode log c bytes (Rct e) h =
    let b = body_of bytes (Rct e) in
    elim (or_cases (precedes b c) (not (is_local mode) && seals_first log c b) h) [
      | inl right ↦ (let prior = (precedes_some b c right).0 in cc)
      | inr sealing ↦ (let none = (and_parts (not (is_local mode)) (seals_first log c b) sealing).1 in cc)
    ]

waiter_some : (mode : Mode) (log : List Body) (c : Body) (o : Option Body) → is_awaited_there mode log (Some c) o ≡ true → (b : Body) × (o ≡ Some b) × (is_awaited mode log c b ≡ true)
waiter_some mode log c None h = cc
waiter_some mode log c (Some b) h = (b, refl, h)

pub woken_next : (mode : Mode) (v w : View) (number : ℕ) (b : Body) → slice_get v.held number ≡ Some b → w.held ≡ v.held → log_of w ≡ log_of v ++ b ∷ [] → AreSoundTables w
    → (n : ℕ) → is_awaited_there mode (log_of v) (slice_get v.held number) (slice_get v.held n) ≡ true → IsNextAt mode w n
    → (d : Body) × (slice_get v.held n ≡ Some d) × (wakes mode (log_of v) b d ≡ true)
woken_next mode v w number b at held log stands n awaits next =
    let some = waiter_some mode (log_of v) b (slice_get v.held n) (ap (λ o. is_awaited_there mode (log_of v) o (slice_get v.held n)) (sym at) ∙ awaits) in
    let d = some.0 in
    let there : slice_get w.held n ≡ Some d = ap (λ hs. slice_get hs n) held ∙ some.1 in
    let parts = and_parts (not (list_any (λ m. m == n) w.log.numbers)) (is_there (log_of w) d && is_anchored mode (log_of w) d) (next d there) in
    let rest = and_parts (is_there (log_of w) d) (is_anchored mode (log_of w) d) parts.1 in
    let waits : is_waiting (log_of w) d ≡ true = sym (waits_is w stands n d there) ∙ and_from _ _ (waiter_event mode (log_of v) b d.bytes d.event some.2) parts.0 in (
      d,
      some.1,
      subst (λ l. ((is_waiting l d && is_awaited mode (log_of v) b d) && is_there l d && is_anchored mode l d) ≡ true) log (and_from _ _ (and_from _ _ (and_from _ _ waits some.2) rest.0) rest.1),
    )
