-- The accepted establishment events by the texts of their prefixes and their numbers.
use Rattle.std.specs.Prelude.{◌≡◌, ℕ, List, [], ◌∷◌, ◌++◌, Option, Some, None, OnOk, Result, true, slice_get, Contains}
use Rattle.std.specs.declared.cmp.Ordering.{Ordering}
use Rattle.std.specs.Ordering.{nat_cmp, ordering_then}
use Rattle.std.specs.Cmp.Lexicographic.{slice_cmp}
use Rattle.std.specs.BTreeMap.{is_at}
use Rattle.std.specs.Map.{lookup}
use Rattle.cesr_codes.specs.Spelling.{IsPrefix, prefix_text}
use Rattle.cesr_codes.specs.declared.key.Key.{Key}
use Rattle.cesr_codes.specs.declared.prefix.Prefix.{Prefix}
use Rattle.event_body.specs.declared.event_body.event.Event.{Event}
use Rattle.event_body.specs.EventBody.Events.{prefix_of, sn_of, is_establishment}
use Rattle.key_state.specs.Exposure.{rules_of}
use Rattle.journal.specs.declared.journal.body.Body.{Body}
use Rattle.journal.specs.Journal.Grown.{IsGrown}
use Rattle.journal.specs.Journal.Logs.{state}
use Rattle.quorum_laws.specs.Backing.{rules_in}
use Rattle.blame_core.specs.declared.blame_core.establishments.Establishment.{Establishment}
use Rattle.blame_core.specs.declared.blame_core.place.Place.{Place}

-- the text of an event's prefix, and its number
abbrev pub place_of : Event → Place
place_of e = record { prefix = prefix_text (prefix_of e); sn = sn_of e }

-- places are ordered by the texts, then by the numbers
abbrev pub place_cmp : Place → Place → Ordering
place_cmp k l = ordering_then (slice_cmp nat_cmp k.prefix l.prefix) (nat_cmp k.sn l.sn)

-- what stands at a place
abbrev pub event_at : List (Place × Establishment) → Place → Option Establishment
event_at entries k = lookup (is_at (place_cmp k)) entries

-- the list, or none
abbrev pub list_of : Option (List Key) → List Key
list_of None = []
list_of (Some keys) = keys

-- the list that stands at the text of a prefix
abbrev pub list_at : List (List ℕ × List Key) → Prefix → List Key
list_at entries p = list_of (lookup (is_at (slice_cmp nat_cmp (prefix_text p))) entries)

-- an accepted establishment event of this place, with its number and its own witness list
pub record IsAt (held log : List Body) (k : Place) (x : Establishment) : Type 0 where
  pub body : Body
  pub inside : Contains log body
  pub sets_keys : is_establishment body.event ≡ true
  pub spelled : IsPrefix (prefix_of body.event)
  pub at : k ≡ place_of body.event
  pub place : x.place ≡ k
  pub number : slice_get held x.number ≡ Some body
  pub witnesses : x.witnesses ≡ (rules_in log body).witnesses

-- something stands at the place of an event
pub record HasPlace (entries : List (Place × Establishment)) (b : Body) : Type 0 where
  pub spelled : IsPrefix (prefix_of b.event)
  pub found : Establishment
  pub is : event_at entries (place_of b.event) ≡ Some found

-- what stands at places are accepted establishment events, and each of these that was seen has its place
pub record ArePlaced (held log seen : List Body) (entries : List (Place × Establishment)) : Type 0 where
  pub each : (k : Place) (x : Establishment) → event_at entries k ≡ Some x → IsAt held log k x
  pub all : (b : Body) → Contains seen b → is_establishment b.event ≡ true → HasPlace entries b

-- the same of all of them
abbrev pub AreEstablishments : List Body → List Body → List (Place × Establishment) → Type 0
AreEstablishments held log entries = ArePlaced held log log entries

-- the list is grown, and begins with those that were seen and the body
pub record IsFollowedBy (log seen : List Body) (b : Body) : Type 0 where
  pub grown : IsGrown log
  pub later : List Body
  pub parts : log ≡ seen ++ b ∷ later

-- the events that were seen are placed, and each identifier has its current witness list
pub record IsWalked (held log seen : List Body) (lists : List (List ℕ × List Key)) (entries : List (Place × Establishment)) : Type 0 where
  pub placed : ArePlaced held log seen entries
  pub current : (p : Prefix) → IsPrefix p → list_at lists p ≡ (rules_of (state seen p)).witnesses

-- the event of a number is walked over next, unless memory runs out
abbrev pub WalksOver : {E : Type 0} → ℕ → Event → List (List ℕ × List Key) → List (Place × Establishment) → List (List ℕ × List Key) → List (Place × Establishment) → Result (Unit {0}) E → Type 0
WalksOver number e lists entries lists_new entries_new result = (held log seen : List Body) (b : Body) → slice_get held number ≡ Some b → b.event ≡ e
    → IsFollowedBy log seen b → IsWalked held log seen lists entries → OnOk result (IsWalked held log (seen ++ b ∷ []) lists_new entries_new)
