-- The room when an event is stored: it needs no more what the event needed.
use Rattle.std.proofs.Common.{◌≡◌, ◌≤◌, ◌+◌, ◌-◌, ◌*◌, ℕ, length, take, slice_get, Some, get_or, sym, ◌∙◌, ap, arith}
use Rattle.std.proofs.lemmas.List.{length-map}
use Rattle.journal.specs.declared.journal.body.Body.{Body}
use Rattle.journal.specs.Journal.Grown.{IsGrown}
use Rattle.validator_core.specs.ValidatorCore.View.{CoreView, accepted_by, told_of}
use Rattle.witness_core.specs.WitnessStore.Histories.{bodies_in, history_of}
use Rattle.witness_core.specs.WitnessStore.Room.{IsKnown, IsRoom, reserve, signatures_on, weight}
use Rattle.witness_core.specs.declared.witness_store.room.Room.{Room}
use Rattle.witness_core.proofs.WitnessStoreLemmas.RoomSteps.{held_is, released, signatures_at}

module _ (core : CoreView) (known : IsKnown core) (stored : ℕ) (room : Room) (is : IsRoom (history_of core) stored room) where
  -- each body's signatures are counted
  pub counted_all : length room.signatures.items ≡ length core.held
  counted_all = omega (arith, ap length is.signatures, length-map (bodies_in (history_of core)) (signatures_on (told_of core)), ap length (held_is core known))

  -- and read by its number
  pub signatures_there : (n : ℕ) (b : Body) → slice_get core.held n ≡ Some b → (read : ℕ) → read ≡ get_or room.signatures.items n read → read ≡ signatures_on (told_of core) b
  signatures_there n b there read read_is = read_is ∙ signatures_at (history_of core) stored room is n b (ap (λ l. slice_get l n) (sym (held_is core known)) ∙ there) read

-- WEIGHS: what the code counts is what the body needs
pub weighs : (core : CoreView) (b : Body) (bytes signatures : ℕ) → bytes ≡ length b.bytes → signatures ≡ signatures_on (told_of core) b → bytes + 13 + 92 * signatures ≡ weight (told_of core) b
weighs core b bytes signatures bytes_are signatures_are = λ i. bytes_are i + 13 + 92 * signatures_are i

module _ (core : CoreView) (known : IsKnown core) (grown : IsGrown (history_of core).base) (place : ℕ) (b : Body) (at : slice_get (accepted_by core) place ≡ Some b) (room : Room)
    (is : IsRoom (history_of core) place room) (needed : ℕ) (needed_is : needed ≡ weight (told_of core) b) where
  less : reserve (told_of core) (take (place + 1) (accepted_by core)) (bodies_in (history_of core)) + weight (told_of core) b ≡ reserve (told_of core) (take place (accepted_by core)) (bodies_in (history_of core))
  less = released core known grown place b at (weight (told_of core))

  -- RELEASED: there is as much to take away
  pub is_reserved : needed ≤ room.reserved
  is_reserved = omega (arith, needed_is, less, is.reserved)

  pub room_released : IsRoom (history_of core) (place + 1) (record { signatures = room.signatures; reserved = room.reserved - needed })
  room_released = record {
    events = is.events;
    signatures = is.signatures;
    reserved = omega (arith, needed_is, less, is.reserved);
  }
