-- Room for a message that isn't turned away.
use Rattle.std.proofs.Common.{◌≡◌, ◌≤◌, ◌+◌, ◌*◌, ◌⊎◌, ℕ, Bool, true, false, List, [], ◌∷◌, ◌++◌, length, take, slice_get, Some, refl, sym, ◌∙◌, ap, subst, arith, inl, inr, ⊎_elim, nat_lt, if◌then◌else◌}
use Rattle.std.proofs.lemmas.Bool.{cases_Bool, or_parts}
use Rattle.std.proofs.lemmas.Bool.Decides.{nat_tests}
use Rattle.std.proofs.lemmas.List.Sums.{sum_by_push}
use Rattle.claim_table.specs.CoreLaws.Waking.{is_waiting}
use Rattle.event_body.specs.EventBody.Events.{is_receipt}
use Rattle.journal.specs.declared.journal.body.Body.{Body}
use Rattle.journal.specs.declared.journal.claim.Claim.{Claim}
use Rattle.journal.specs.Journal.History.{Told, took}
use Rattle.journal.specs.Journal.Logs.{is_in, same_body}
use Rattle.journal.proofs.JournalLemmas.Accepting.{same_body-refl}
use Rattle.journal.proofs.JournalLemmas.Places.{any_at}
use Rattle.keri_outside.specs.declared.limits.Limits.{Limits}
use Rattle.shelf_log.specs.ShelfLog.Format.{shelf_size}
use Rattle.shelf_log.specs.declared.shelf_log.version.Version.TheVariants.{Two}
use Rattle.validator_core.proofs.ValidatorCoreLemmas.Bodies.{bodies_new, bodies_old}
use Rattle.witness_core.specs.WitnessStore.Histories.{History, bodies_in, log_in, told_more}
use Rattle.witness_core.specs.WitnessStore.Room.{HasRoom, IsRoom, count_waiting as count_in, if_waiting, lacks_room, reserve, signatures_in, weight}
use Rattle.witness_core.specs.declared.witness_store.room.Room.{Room}
use Rattle.witness_core.proofs.WitnessStoreLemmas.RoomSteps.{log_before}
use Rattle.witness_core.proofs.WitnessStoreLemmas.Rooms.{bodies_differ, reserve_again, reserve_first, signatures_fresh, weight_own}

-- the body is one of them, or a new one
abbrev pub IsThere : History → Body → Type 0
IsThere h b = ((n : ℕ) × (slice_get (bodies_in h) n ≡ Some b)) ⊎ ((is_in (bodies_in h) b ≡ false) × (is_in (log_in h) b ≡ false))

module _ (h : History) (b : Body) (claims : List Claim) (event : is_receipt b.event ≡ false) where
  abbrev t : Told
  t = took 0 b claims

  old_bodies : (n : ℕ) → slice_get (bodies_in h) n ≡ Some b → bodies_in (told_more h t) ≡ bodies_in h
  old_bodies n at = bodies_old h.base h.told 0 b claims (any_at (λ c. same_body c b) (bodies_in h) n b at (same_body-refl b))

  new_bodies : is_in (bodies_in h) b ≡ false → bodies_in (told_more h t) ≡ bodies_in h ++ b ∷ []
  new_bodies outside = bodies_new h.base h.told 0 b claims outside

  one_most : (log : List Body) → if_waiting log (λ c. 1) b ≤ 1
  one_most log = elim (cases_Bool (is_waiting log b)) [ inl k ↦ rw k (omega arith) | inr k ↦ rw k (omega arith) ]

  -- at most one event more waits
  count_most : IsThere h b → count_in (log_in h) (bodies_in (told_more h t)) ≤ count_in (log_in h) (bodies_in h) + 1
  count_most there = ⊎_elim
      (λ old. omega (arith, ap (count_in (log_in h)) (old_bodies old.0 old.1)))
      (λ new. omega (arith, ap (count_in (log_in h)) (new_bodies new.0), sum_by_push (if_waiting (log_in h) (λ c. 1)) (bodies_in h) b, one_most (log_in h)))
      there

  if_most : (w : Bool) (n : ℕ) → (if w then n else 0) ≤ n
  if_most true n = omega arith
  if_most false n = omega arith

  module _ (stored : ℕ) (room new : Room) (is : IsRoom h stored room) where
    -- and what it needs
    reserve_most : IsThere h b → reserve (h.told ++ t ∷ []) (log_in h) (bodies_in (told_more h t)) ≤ reserve h.told (log_in h) (bodies_in h) + weight (h.told ++ t ∷ []) b
    reserve_most there = ⊎_elim
        (λ old. omega (
          arith,
          ap (reserve (h.told ++ t ∷ []) (log_in h)) (old_bodies old.0 old.1),
          reserve_again h.told b claims event (bodies_in h) (bodies_differ h.base h.told) old.0 old.1 (log_in h),
          if_most (is_waiting (log_in h) b) (92 * signatures_in claims),
          weight_own h.told b claims event,
        ))
        (λ new.
        let none = signatures_fresh h.base h.told b new.0 is.events in
        let unlogged = new.1 in
        let waits : is_waiting (log_in h) b ≡ true = rw (event, unlogged) refl in
        omega (arith, ap (reserve (h.told ++ t ∷ []) (log_in h)) (new_bodies new.0), reserve_first h.told b claims event (bodies_in h) new.0 (log_in h) none waits, none, weight_own h.told b claims event))
        there

-- what the test of the numbers leaves
room_left : (limits : Limits) (h : History) (list : List (List ℕ)) (b : Body) (claims : List Claim) → lacks_room limits h list b claims ≡ false
    → (length list + count_in (log_in h) (bodies_in h) + 1 ≤ limits.records)
    × (shelf_size Two list + reserve h.told (log_in h) (bodies_in h) + weight (h.told ++ took 0 b claims ∷ []) b ≤ limits.shelf_bytes)
room_left limits h list b claims room =
    let both = or_parts (nat_lt limits.records (length list + count_in (log_in h) (bodies_in h) + 1)) _ room in
    let first = both.0 in
    let second = both.1 in
    (grind (arith, nat_tests, first), grind (arith, nat_tests, second))

-- MADE: with the message the list has room
pub has_room_took : (limits : Limits) (h : History) (list : List (List ℕ)) (b : Body) (claims : List Claim) (room new : Room) → is_receipt b.event ≡ false → length list ≡ length (log_in h) → HasRoom limits h list room
    → lacks_room limits h list b claims ≡ false → IsThere h b → IsRoom (told_more h (took 0 b claims)) (length (log_in h)) new → HasRoom limits (told_more h (took 0 b claims)) list new
has_room_took limits h list b claims room new event all has lacks there is =
    let t = took 0 b claims in
    let left = room_left limits h list b claims lacks in
    let front : take (length list) (log_in (told_more h t)) ≡ log_in h = ap (λ n. take n (log_in (told_more h t))) all ∙ log_before h t in
    let reserved : new.reserved ≡ reserve (h.told ++ t ∷ []) (log_in h) (bodies_in (told_more h t)) = is.reserved ∙ ap (λ l. reserve (h.told ++ t ∷ []) l (bodies_in (told_more h t))) (log_before h t) in record {
      is = subst (λ n. IsRoom (told_more h t) n new) (sym all) is;
      records = subst (λ l. length list + count_in l (bodies_in (told_more h t)) ≤ limits.records) (sym front) (omega (arith, left.0, count_most h b claims event there));
      bytes = λ some. omega (arith, left.1, reserved, reserve_most h b claims event (length list) room new has.is there);
    }
