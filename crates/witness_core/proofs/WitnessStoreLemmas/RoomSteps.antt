-- How the room changes as messages come and events are stored.
use Rattle.std.proofs.Common.{◌≡◌, ◌≤◌, ◌+◌, ◌*◌, ℕ, Bool, true, false, List, [], ◌∷◌, ◌++◌, length, map, take, set, slice_get, Some, refl, sym, ◌∙◌, ap, subst, arith, get_or, if◌then◌else◌}
use Rattle.std.specs.Prelude.{flat_map, sum_by}
use Rattle.std.specs.List.{list_all}
use Rattle.std.proofs.lemmas.Bool.{not_from_false}
use Rattle.std.proofs.lemmas.List.{take_all}
use Rattle.std.proofs.lemmas.Option.{get_or_from_slice_get}
use Rattle.cesr_codes.specs.declared.key.Key.{Key}
use Rattle.cesr_codes.specs.declared.sig.Sig.{Sig}
use Rattle.claim_table.specs.CoreLaws.Waking.{is_waiting}
use Rattle.event_body.specs.EventBody.Events.{is_receipt}
use Rattle.journal.specs.declared.journal.body.Body.{Body}
use Rattle.journal.specs.declared.journal.claim.Claim.{Claim}
use Rattle.journal.specs.Journal.Grown.{IsGrown}
use Rattle.journal.specs.Journal.History.{Told, heard, taken, took}
use Rattle.journal.specs.Journal.Logs.{is_in, same_body}
use Rattle.journal.proofs.JournalLemmas.Accepting.{same_body-refl}
use Rattle.journal.proofs.JournalLemmas.Different.{Differ}
use Rattle.journal.proofs.JournalLemmas.Keeping.{accepted_grown}
use Rattle.journal.proofs.JournalLemmas.Places.{any_at}
use Rattle.keri_outside.specs.declared.limits.Limits.{Limits}
use Rattle.validator_core.specs.ValidatorCore.View.{CoreView, accepted_by}
use Rattle.validator_core.proofs.ValidatorCoreLemmas.Bodies.{bodies_heard, bodies_new, bodies_old}
use Rattle.witness_core.specs.WitnessStore.Histories.{History, bodies_in, history_of, log_in, told_more}
use Rattle.witness_core.specs.WitnessStore.Room.{HasRoom, IsKnown, IsRoom, count_waiting as count_in, if_waiting, is_event, reserve, signatures_in, signatures_on}
use Rattle.witness_core.specs.declared.witness_store.room.Room.{Room}
use Rattle.witness_core.proofs.WitnessStoreLemmas.Entries.{log_more}
use Rattle.witness_core.proofs.WitnessStoreLemmas.Lists.{map_at, take_front, take_place}
use Rattle.witness_core.proofs.WitnessStoreLemmas.Rooms.{bodies_differ, bodies_events, all_heard, events_heard, events_took, reserve_again, reserve_first, reserve_heard, signatures_again, signatures_first, signatures_fresh}
use Rattle.witness_core.proofs.WitnessStoreLemmas.Waits.{AreAmong, accepted_less, chosen_at, chosen_length, counted, waited}

-- the bodies that are held are those that came
pub held_is : (core : CoreView) → IsKnown core → core.held ≡ bodies_in (history_of core)
held_is core known = known.sound.in_order

pub held_differ : (core : CoreView) → IsKnown core → Differ same_body core.held
held_differ core known = subst (Differ same_body) (sym (held_is core known)) (bodies_differ (history_of core).base (history_of core).told)

-- each accepted event is among them
pub among : (core : CoreView) → IsKnown core → AreAmong (bodies_in (history_of core)) (accepted_by core)
among core known i c at =
    let found = chosen_at core.held core.accepted known.held i c (ap (λ l. slice_get l i) known.accepted ∙ at) in
    (found.0, sym (ap (λ l. slice_get l found.0) (held_is core known)) ∙ found.2)

pub grown_log : (core : CoreView) → IsGrown (history_of core).base → IsGrown (accepted_by core)
grown_log core grown = accepted_grown core.mode (history_of core).base (history_of core).told grown

-- COUNT: those that wait
pub waiting_counted : (core : CoreView) → IsKnown core → IsGrown (history_of core).base → list_all is_event ((history_of core).base ++ flat_map taken (history_of core).told) ≡ true
    → count_in (accepted_by core) (bodies_in (history_of core)) + length core.accepted ≡ length core.held
waiting_counted core known grown events =
    let log = accepted_by core in
    let all = bodies_in (history_of core) in
    let whole : count_in (take (length log) log) all ≡ count_in log all = ap (λ l. count_in l all) (take_all (length log) log (omega arith)) in
    let long : length log ≡ length core.accepted = sym (ap length known.accepted) ∙ chosen_length core.held core.accepted known.held in
    omega (
      arith,
      whole,
      long,
      ap length (held_is core known),
      counted all log (bodies_differ (history_of core).base (history_of core).told) (grown_log core grown) (among core known) (bodies_events (history_of core).base (history_of core).told events) (length log) (omega arith),
    )

-- RELEASED: what an event needs that is stored
pub released : (core : CoreView) → IsKnown core → IsGrown (history_of core).base → (place : ℕ) (c : Body) → slice_get (accepted_by core) place ≡ Some c → (f : Body → ℕ)
    → sum_by (if_waiting (take (place + 1) (accepted_by core)) f) (bodies_in (history_of core)) + f c ≡ sum_by (if_waiting (take place (accepted_by core)) f) (bodies_in (history_of core))
released core known grown place c at f =
    let (n, there) = among core known place c at in
    ap (λ l. sum_by (if_waiting l f) (bodies_in (history_of core)) + f c) (take_place (accepted_by core) place c at)
    ∙ accepted_less (take place (accepted_by core)) c (bodies_in (history_of core)) (bodies_differ (history_of core).base (history_of core).told) n there (waited (accepted_by core) (grown_log core grown) place c at) f

-- the signatures at a body's number
pub signatures_at : (h : History) (stored : ℕ) (room : Room) → IsRoom h stored room → (n : ℕ) (b : Body) → slice_get (bodies_in h) n ≡ Some b → (d : ℕ) → get_or room.signatures.items n d ≡ signatures_on h.told b
signatures_at h stored room is n b at d = ap (λ l. get_or l n d) is.signatures ∙ get_or_from_slice_get (map (signatures_on h.told) (bodies_in h)) n (signatures_on h.told b) d (map_at (signatures_on h.told) (bodies_in h) n b at)

module _ (h : History) where
  whole_log : take (length (log_in h)) (log_in h) ≡ log_in h
  whole_log = take_all (length (log_in h)) (log_in h) (omega arith)

  -- what was accepted before an entry
  pub log_before : (t : Told) → take (length (log_in h)) (log_in (told_more h t)) ≡ log_in h
  log_before t = let more = log_more h t in ap (take (length (log_in h))) more.1 ∙ take_front (log_in h) more.0

  module _ (room new : Room) (is : IsRoom h (length (log_in h)) room) where
    reserved_is : room.reserved ≡ reserve h.told (log_in h) (bodies_in h)
    reserved_is = is.reserved ∙ ap (λ l. reserve h.told l (bodies_in h)) whole_log

    module _ (b : Body) (claims : List Claim) (event : is_receipt b.event ≡ false) (k : ℕ) (k_is : k ≡ signatures_in claims) where
      abbrev t : Told
      t = took 0 b claims

      -- AGAIN: claims came with a body that was there
      pub room_again : (n : ℕ) → slice_get (bodies_in h) n ≡ Some b → (waits : Bool) → waits ≡ is_waiting (log_in h) b → new.signatures.items ≡ set room.signatures.items n (get_or room.signatures.items n 0 + k)
          → new.reserved ≡ room.reserved + (if waits then 92 * k else 0) → IsRoom (told_more h t) (length (log_in h)) new
      room_again n at waits waits_is signatures reserved =
          let same : bodies_in (told_more h t) ≡ bodies_in h = bodies_old h.base h.told 0 b claims (any_at (λ c. same_body c b) (bodies_in h) n b at (same_body-refl b)) in
          let differ = bodies_differ h.base h.told in record {
            events = events_took h.base h.told b claims is.events (not_from_false _ event);
            signatures = signatures
                ∙ (λ i. set (is.signatures i) n ((ap (λ m. m + k) (signatures_at h (length (log_in h)) room is n b at 0) ∙ ap (λ m. signatures_on h.told b + m) k_is) i))
                ∙ sym (signatures_again h.told b claims event (bodies_in h) differ n at) ∙ ap (map (signatures_on (h.told ++ t ∷ []))) (sym same);
            reserved = reserved
                ∙ (λ i. reserved_is i + (if waits_is i then 92 * k_is i else 0))
                ∙ sym (reserve_again h.told b claims event (bodies_in h) differ n at (log_in h))
                ∙ (λ i. reserve (h.told ++ t ∷ []) (sym (log_before t) i) (sym same i));
          }

      -- FIRST: a body came that wasn't
      pub room_first : is_in (bodies_in h) b ≡ false → is_in (log_in h) b ≡ false → new.signatures.items ≡ room.signatures.items ++ k ∷ []
          → new.reserved ≡ room.reserved + (length b.bytes + 13 + 92 * k) → IsRoom (told_more h t) (length (log_in h)) new
      room_first outside unlogged signatures reserved =
          let same : bodies_in (told_more h t) ≡ bodies_in h ++ b ∷ [] = bodies_new h.base h.told 0 b claims outside in
          let none = signatures_fresh h.base h.told b outside is.events in
          let waits : is_waiting (log_in h) b ≡ true = rw (event, unlogged) refl in record {
            events = events_took h.base h.told b claims is.events (not_from_false _ event);
            signatures = signatures ∙ (λ i. is.signatures i ++ k_is i ∷ [])
                ∙ sym (signatures_first h.told b claims event (bodies_in h) outside none) ∙ ap (map (signatures_on (h.told ++ t ∷ []))) (sym same);
            reserved = reserved ∙ (λ i. reserved_is i + (length b.bytes + 13 + 92 * k_is i))
                ∙ sym (reserve_first h.told b claims event (bodies_in h) outside (log_in h) none waits)
                ∙ (λ i. reserve (h.told ++ t ∷ []) (sym (log_before t) i) (sym same i));
          }

    -- HEARD: a verdict came
    pub room_heard : (b : Body) (key : Key) (sig : Sig) (verdict : Bool) → IsRoom (told_more h (heard 0 b key sig verdict)) (length (log_in h)) room
    room_heard b key sig verdict =
        let t = heard 0 b key sig verdict in
        let same : bodies_in (told_more h t) ≡ bodies_in h = bodies_heard h.base h.told 0 b key sig verdict in record {
          events = events_heard h.base h.told b key sig verdict is.events;
          signatures = is.signatures ∙ sym (all_heard h.told b key sig verdict (bodies_in h)) ∙ ap (map (signatures_on (h.told ++ t ∷ []))) (sym same);
          reserved = reserved_is ∙ sym (reserve_heard h.told b key sig verdict (log_in h) (bodies_in h))
              ∙ (λ i. reserve (h.told ++ t ∷ []) (sym (log_before t) i) (sym same i));
        }

  -- after a verdict the list has the room that it had
  pub has_room_heard : (limits : Limits) (list : List (List ℕ)) (room : Room) → length list ≡ length (log_in h) → HasRoom limits h list room → (b : Body) (key : Key) (sig : Sig) (verdict : Bool)
      → HasRoom limits (told_more h (heard 0 b key sig verdict)) list room
  has_room_heard limits list room all has b key sig verdict =
      let t = heard 0 b key sig verdict in
      let same : bodies_in (told_more h t) ≡ bodies_in h = bodies_heard h.base h.told 0 b key sig verdict in
      let front : take (length list) (log_in (told_more h t)) ≡ take (length list) (log_in h) = ap (λ n. take n (log_in (told_more h t))) all ∙ log_before t ∙ sym whole_log ∙ ap (λ n. take n (log_in h)) (sym all) in record {
        is = subst (λ n. IsRoom (told_more h t) n room) (sym all) (room_heard room room (subst (λ n. IsRoom h n room) all has.is) b key sig verdict);
        records = subst (λ l. length list + count_in l (bodies_in (told_more h t)) ≤ limits.records) (sym front)
            (subst (λ bs. length list + count_in (take (length list) (log_in h)) bs ≤ limits.records) (sym same) has.records);
        bytes = has.bytes;
      }
