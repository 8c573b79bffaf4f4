-- What an accepted log has, and what the acceptance of one more event makes of it.
use Rattle.std.specs.Prelude.{◌≡◌, ℕ, zero, suc, ◌+◌, ◌-◌, ◌≤◌, Bool, false, nat_lt, List, [], ◌∷◌, ◌++◌, length, take, drop, slice_get, Option, Some, None, if◌then◌else◌}
use Rattle.cesr_codes.specs.declared.digest.Digest.{Digest}
use Rattle.cesr_codes.specs.declared.prefix.Prefix.{Prefix}
use Rattle.key_state.specs.Same.{same_prefix}
use Rattle.key_state.specs.States.{State}
use Rattle.validator_core.specs.declared.tables.accepted_log.place.Place.{Place}

-- the numbers of the accepted events' bodies and the places of the events, in order of acceptance; and a state for each
-- establishment event, with the digests of the interactions that went onto it
pub record Log : Type 0 where
  pub numbers : List ℕ
  pub places : List Place
  pub states : List State

abbrev pub nothing : Log
nothing = record { numbers = []; places = []; states = [] }

-- the place of the last state of an identifier, where the first of the list has this place
unfoldable pub last_from : ℕ → Prefix → List State → Option ℕ
last_from n prefix [] = None
last_from n prefix (s ∷ states) = or_here (last_from (n + 1) prefix states)
  where
    or_here : Option ℕ → Option ℕ
    or_here (Some k) = Some k
    or_here None = if same_prefix s.prefix prefix then Some n else None

abbrev pub last_place : Prefix → List State → Option ℕ
last_place prefix states = last_from 0 prefix states

-- the state at a place
abbrev pub state_there : List State → Option ℕ → Option State
state_there states None = None
state_there states (Some k) = slice_get states k

-- the last state of an identifier
abbrev pub last_of : Prefix → List State → Option State
last_of prefix states = state_there states (last_place prefix states)

-- a list with the element at a place changed
abbrev pub at_place : {X : Type 0} → ℕ → (X → X) → List X → List X
at_place k f [] = []
at_place zero f (x ∷ xs) = f x ∷ xs
at_place (suc k) f (x ∷ xs) = x ∷ at_place k f xs

-- a state with the digest of one more interaction
abbrev pub with_since : Digest → State → State
with_since said s = record s { since = s.since ++ said ∷ [] }

-- a state without its last digest
abbrev pub without_last : State → State
without_last s = record s { since = take (length s.since - 1) s.since }

-- an establishment event is accepted: its state comes behind the others
abbrev pub established : ℕ → ℕ → State → Log → Log
established number entries s v = record {
  numbers = v.numbers ++ number ∷ [];
  places = v.places ++ record { state = length v.states; entries = entries } ∷ [];
  states = v.states ++ s ∷ [];
}

-- an interaction is accepted: it goes onto the state at a place, where there is one
abbrev pub gone_onto : ℕ → ℕ → Digest → Option ℕ → Log → Log
gone_onto number entries said None v = v
gone_onto number entries said (Some k) v = record {
  numbers = v.numbers ++ number ∷ [];
  places = v.places ++ record { state = k; entries = entries } ∷ [];
  states = at_place k (with_since said) v.states;
}

-- an interaction is accepted: it goes onto the last state of its identifier
abbrev pub interacted : ℕ → ℕ → Prefix → Digest → Log → Log
interacted number entries prefix said v = gone_onto number entries said (last_place prefix v.states) v

-- it has more than the digest of the event that made it
abbrev pub has_more : Option State → Bool
has_more None = false
has_more (Some s) = nat_lt 1 (length s.since)

-- the states without their last event, which went onto the state at this place, or made it
abbrev pub undone : ℕ → List State → List State
undone k states = if has_more (slice_get states k) then at_place k without_last states else take k states

-- the states without their last events, which have these places
abbrev pub undone_all : List Place → List State → List State
undone_all [] states = states
undone_all (p ∷ later) states = undone p.state (undone_all later states)

-- what was there after the first so many events
abbrev pub rewound : ℕ → Log → Log
rewound n v = record {
  numbers = take n v.numbers;
  places = take n v.places;
  states = undone_all (drop n v.places) v.states;
}

-- the new one is the old one with further events, if any: cut back, it is the old one
pub record Extends (old new : Log) : Type 0 where
  pub back : rewound (length old.numbers) new ≡ old
  pub longer : length old.numbers ≤ length new.numbers
