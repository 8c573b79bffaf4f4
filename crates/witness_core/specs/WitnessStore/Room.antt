-- How much room of a shelf the events that wait need, and when a body that comes has none (own).
use Rattle.std.specs.Prelude.{◌≡◌, ℕ, ◌+◌, ◌*◌, ◌<◌, ◌≤◌, All, Bool, true, false, ◌||◌, not, nat_lt, List, [], ◌∷◌, ◌++◌, length, map, take, filter_map, flat_map, sum_by, slice_get, Some, IfSome, IfNone, if◌then◌else◌}
use Rattle.std.specs.List.{list_all}
use Rattle.claim_table.specs.CoreLaws.Waking.{is_waiting}
use Rattle.event_body.specs.EventBody.Events.{is_receipt}
use Rattle.journal.specs.declared.journal.body.Body.{Body}
use Rattle.journal.specs.declared.journal.claim.Claim.{Claim}
use Rattle.journal.specs.Journal.History.{Told, claims_on, taken, took}
use Rattle.journal.specs.Journal.Journals.{chosen}
use Rattle.journal.specs.Journal.Logs.{is_in}
use Rattle.journal.specs.Journal.Readiness.{held_sig}
use Rattle.keri_outside.specs.declared.limits.Limits.{Limits}
use Rattle.shelf_log.specs.ShelfLog.Format.{shelf_size}
use Rattle.shelf_log.specs.declared.shelf_log.version.Version.TheVariants.{Two}
use Rattle.validator_core.specs.ValidatorCore.View.{CoreView, IsSoundCore, accepted_by}
use Rattle.witness_core.specs.WitnessStore.Histories.{History, bodies_in, log_in}
use Rattle.witness_core.specs.declared.witness_store.room.Coming.{Coming}
use Rattle.witness_core.specs.declared.witness_store.room.Room.{Room}

-- so many of the claims are signatures of the controller
abbrev pub signatures_in : List Claim → ℕ
signatures_in claims = length (filter_map held_sig claims)

-- and so many of those on the body
abbrev pub signatures_on : List Told → Body → ℕ
signatures_on told b = signatures_in (claims_on told b)

-- So many bytes of a shelf the body needs at most, with all the controller's signatures on it: 5 for its record's gate and
-- length, 4 for each of two counters of groups, 92 for a signature.
abbrev pub weight : List Told → Body → ℕ
weight told b = length b.bytes + 13 + 92 * signatures_on told b

-- that of a body which is an event that isn't in the list; else none
abbrev pub if_waiting : List Body → (Body → ℕ) → Body → ℕ
if_waiting log f b = if is_waiting log b then f b else 0

-- so many bytes the events need that aren't in the list, and so many they are
abbrev pub reserve : List Told → List Body → List Body → ℕ
reserve told log all = sum_by (if_waiting log (weight told)) all

abbrev pub count_waiting : List Body → List Body → ℕ
count_waiting log all = sum_by (if_waiting log (λ b. 1)) all

-- The shelf has no room for a body with its claims: its records, the events that wait and one together are over the limit; or its
-- bytes are, with those that the events that wait need, and those that this body needs with the claims counted.
abbrev pub lacks_room : Limits → History → List (List ℕ) → Body → List Claim → Bool
lacks_room limits h list b claims =
    nat_lt limits.records (length list + count_waiting (log_in h) (bodies_in h) + 1)
    || nat_lt limits.shelf_bytes (shelf_size Two list + reserve h.told (log_in h) (bodies_in h) + weight (h.told ++ took 0 b claims ∷ []) b)

-- it is no receipt
abbrev pub is_event : Body → Bool
is_event b = not (is_receipt b.event)

-- No receipt was told. The room has the number of signatures that came with each body, and the bytes that the events need that
-- aren't among the first so many accepted ones.
pub record IsRoom (h : History) (stored : ℕ) (room : Room) : Type 0 where
  pub events : list_all is_event (h.base ++ flat_map taken h.told) ≡ true
  pub signatures : room.signatures.items ≡ map (signatures_on h.told) (bodies_in h)
  pub reserved : room.reserved ≡ reserve h.told (take stored (log_in h)) (bodies_in h)

-- The room is that of the list. With the events that wait the list is within the limits; where none waits, its bytes are what
-- they are.
pub record HasRoom (limits : Limits) (h : History) (list : List (List ℕ)) (room : Room) : Type 0 where
  pub is : IsRoom h (length list) room
  pub records : length list + count_waiting (take (length list) (log_in h)) (bodies_in h) ≤ limits.records
  pub bytes : 1 ≤ room.reserved → shelf_size Two list + room.reserved ≤ limits.shelf_bytes

-- what is true of every core: its bodies are those that came, and its numbers name the accepted ones
pub record IsKnown (core : CoreView) : Type 0 where
  pub sound : IsSoundCore core
  pub held : All (λ n. n < length core.held) core.accepted
  pub accepted : chosen core.held core.accepted ≡ accepted_by core

-- the message that is to be taken is of this body, with these claims
pub record IsComing (core : CoreView) (b : Body) (claims : List Claim) (coming : Coming) : Type 0 where
  pub held : IfSome coming.number (λ n. slice_get core.held n ≡ Some b)
  pub new : IfNone coming.number (is_in core.held b ≡ false)
  pub bytes : coming.bytes ≡ length b.bytes
  pub signatures : coming.signatures ≡ signatures_in claims
