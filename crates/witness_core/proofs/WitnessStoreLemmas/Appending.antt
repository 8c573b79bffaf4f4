-- One payload more is appended.
use Rattle.std.proofs.Common.{◌≡◌, ◌≤◌, ◌<◌, ◌+◌, ℕ, Bool, true, false, Err, List, [], ◌∷◌, ◌++◌, length, take, slice_get, Some, refl, sym, ◌∙◌, ap, subst, arith, length-append}
use Rattle.journal_views.specs.EventPayload.Payloads.{text_in}
use Rattle.journal.specs.declared.journal.body.Body.{Body}
use Rattle.journal.specs.Journal.Grown.{IsGrown}
use Rattle.journal.proofs.JournalLemmas.Places.{some_at}
use Rattle.shelf_log.specs.KeriDisk.Images.{DiskShown, LeavesOnly}
use Rattle.shelf_log.proofs.KeriDiskLemmas.Moments.{weaker}
use Rattle.keri_outside.specs.declared.limits.Limits.{Limits}
use Rattle.shelf_log.specs.ShelfLog.Answers.{Answers, refusal}
use Rattle.shelf_log.specs.ShelfLog.Format.{shelf_size}
use Rattle.shelf_log.specs.ShelfLog.OnDisk.{AllHold, HoldsEither}
use Rattle.shelf_log.specs.declared.shelf_log.fault.ShelfFault.{ShelfFault}
use Rattle.shelf_log.specs.declared.shelf_log.version.Version.TheVariants.{Two}
use Rattle.validator_core.specs.ValidatorCore.View.{CoreView, accepted_by, told_of}
use Rattle.witness_core.specs.WitnessStore.Histories.{bodies_in, history_of}
use Rattle.witness_core.specs.WitnessStore.Payloads.{payload_now}
use Rattle.witness_core.specs.WitnessStore.Room.{HasRoom, IsKnown, IsRoom, count_waiting as count_in, reserve, weight}
use Rattle.witness_core.specs.WitnessStore.Storing.{Appends, HoldsFirst, IsOnWay, missing, payloads}
use Rattle.witness_core.specs.declared.witness_store.room.Room.{Room}
use Rattle.witness_core.proofs.WitnessStoreLemmas.RoomSteps.{released}
use Rattle.witness_core.proofs.WitnessStoreLemmas.Stored.{first_either, first_held, is_other, on_way_next, only_those, payloads_next, size_push}

module _ (core : CoreView) (list : List (List ℕ)) (place : ℕ) (place_is : place ≡ length list) (lacking : length list < length (accepted_by core)) (items p : List ℕ) (p_is : p ≡ items)
    (of : (b : Body) → slice_get (accepted_by core) place ≡ Some b → items ≡ payload_now (told_of core) (accepted_by core) b) where
  event : (b : Body) × (slice_get (accepted_by core) (length list) ≡ Some b)
  event = some_at (accepted_by core) (length list) lacking

  there : slice_get (accepted_by core) place ≡ Some event.0
  there = ap (slice_get (accepted_by core)) place_is ∙ event.1

  is : p ≡ payload_now (told_of core) (accepted_by core) event.0
  is = p_is ∙ of event.0 there

  next : payloads (history_of core) list ≡ (list ++ p ∷ []) ++ missing (history_of core) (list ++ p ∷ [])
  next = payloads_next (history_of core) list event.0 p event.1 is

  -- APPENDED: the list has it
  pub appended : ((b : Body) → slice_get (accepted_by core) place ≡ Some b → text_in items ≡ b.bytes) → (new : List (List ℕ)) → new ≡ list ++ p ∷ [] → IsOnWay (history_of core) list → (shown last : DiskShown) → AllHold last new → LeavesOnly shown last (HoldsEither list p)
      → Appends list shown (history_of core) new last
  appended reads new new_is way shown last holds leaves = record {
    on_way = subst (IsOnWay (history_of core)) (sym new_is) (on_way_next (history_of core) list event.0 p event.1 is (ap text_in p_is ∙ reads event.0 there) lacking way);
    same = same;
    longer = omega (arith, ap length new_is, length-append list (p ∷ []));
    images = λ c now. first_held new (missing (history_of core) new) c (holds c now);
    moments = weaker shown last (HoldsEither list p) (HoldsFirst list (payloads (history_of core) new)) (λ c either. first_either list (missing (history_of core) new) (payloads (history_of core) new) p c (ap (λ l. l ++ missing (history_of core) new) new_is) either) leaves;
  }
    where
      same : payloads (history_of core) new ≡ payloads (history_of core) list
      same = ap (payloads (history_of core)) new_is ∙ sym next

  -- FAILED: the list is as before, and the disk may have it
  pub failed : (new : List (List ℕ)) → new ≡ list → IsOnWay (history_of core) list → (shown last : DiskShown) → ((c : List ℕ) → last.images c → last.images_since shown.moment c)
      → LeavesOnly shown last (HoldsEither list p) → Appends list shown (history_of core) new last
  failed new new_is way shown last counts leaves = subst (λ l. Appends list shown (history_of core) l last) (sym new_is) (record {
    on_way = way;
    same = refl;
    longer = omega arith;
    images = λ c now. first_either list (missing (history_of core) (list ++ p ∷ [])) (payloads (history_of core) list) p c next (leaves.each c (counts c now));
    moments = weaker shown last (HoldsEither list p) (HoldsFirst list (payloads (history_of core) list)) (λ c either. first_either list (missing (history_of core) (list ++ p ∷ [])) (payloads (history_of core) list) p c next either) leaves;
  })

  module _ (known : IsKnown core) (grown : IsGrown (history_of core).base) (limits : Limits) (room : Room) (has : HasRoom limits (history_of core) list room)
      (within : (b : Body) → slice_get (accepted_by core) place ≡ Some b → 5 + length items ≤ weight (told_of core) b) where
    counts : count_in (take (length list + 1) (accepted_by core)) (bodies_in (history_of core)) + 1 ≡ count_in (take (length list) (accepted_by core)) (bodies_in (history_of core))
    counts = released core known grown (length list) event.0 event.1 (λ b. 1)

    needs : reserve (told_of core) (take (length list + 1) (accepted_by core)) (bodies_in (history_of core)) + weight (told_of core) event.0 ≡ reserve (told_of core) (take (length list) (accepted_by core)) (bodies_in (history_of core))
    needs = released core known grown (length list) event.0 event.1 (weight (told_of core))

    -- ROOM: a payload that is to be stored has room
    pub few : length list < limits.records
    few = omega (arith, counts, has.records)

    pub short : shelf_size Two list + 5 + length p ≤ limits.shelf_bytes
    short =
        let small = within event.0 there in
        let some : 1 ≤ room.reserved = omega (arith, needs, has.is.reserved) in
        omega (arith, ap length p_is, small, needs, has.is.reserved, has.bytes some)

    -- so it isn't refused
    pub not_refused : (broken : Bool) (fault : ShelfFault) → broken ≡ false → Answers (refusal broken limits list (length p)) (Err fault) → is_other fault ≡ true → ⊥
    not_refused broken fault whole answers other = only_those limits list (length p) broken fault few short whole answers other

    -- and leaves room for the others
    pub fits_next : (new : List (List ℕ)) → new ≡ list ++ p ∷ [] → (then : Room) → IsRoom (history_of core) (place + 1) then → HasRoom limits (history_of core) new then
    fits_next new new_is then is_then =
        let long : place + 1 ≡ length new = omega (arith, place_is, ap length new_is, length-append list (p ∷ [])) in
        let after : length list + 1 ≡ length new = omega (arith, ap length new_is, length-append list (p ∷ [])) in
        let small = within event.0 there in
        let left : then.reserved ≡ reserve (told_of core) (take (length list + 1) (accepted_by core)) (bodies_in (history_of core))
        = is_then.reserved ∙ ap (λ n. reserve (told_of core) (take n (accepted_by core)) (bodies_in (history_of core))) (long ∙ sym after) in
        let some : 1 ≤ room.reserved = omega (arith, needs, has.is.reserved) in
        record {
          is = subst (λ n. IsRoom (history_of core) n then) long is_then;
          records = omega (arith, after, counts, has.records, ap (λ n. count_in (take n (accepted_by core)) (bodies_in (history_of core))) after);
          bytes = λ others. omega (arith, ap (shelf_size Two) new_is, size_push list p, ap length p_is, small, needs, left, has.is.reserved, has.bytes some);
        }
