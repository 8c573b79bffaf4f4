-- Where the states of an identifier are found.
use Rattle.std.specs.Prelude.{◌≡◌, ◌≤◌, ℕ, Bool, true, false, List, length, slice_get, Option, Some, None, Contains}
use Rattle.std.specs.declared.cmp.Ordering.{Ordering}
use Rattle.std.specs.declared.cmp.Ord as ord
use Rattle.cesr_codes.specs.declared.prefix.Prefix.{Prefix}
use Rattle.cesr_codes.specs.contracts.prefix.PrefixOrd.TheImpl as prefix_order
use Rattle.key_state.specs.Same.{same_prefix}
use Rattle.key_state.specs.States.{State}
use Rattle.validator_core.specs.Tables.AcceptedLog.Values.{Log}
use denote.Param as param

-- the order of identifiers
abbrev pub prefix_cmp : Prefix → Prefix → Ordering
prefix_cmp = param.read (ord.Ghosts.cmp {X-1 = Prefix}) prefix_order.ghosts

-- the place of each state is among the numbers of its identifier
abbrev pub AreHinted : (Prefix → List ℕ) → List State → Type 0
AreHinted numbers states = (k : ℕ) (s : State) → slice_get states k ≡ Some s → Contains (numbers s.prefix) k

-- what stands at a place is a state of the identifier
abbrev pub is_state_of : Prefix → Option State → Bool
is_state_of prefix None = false
is_state_of prefix (Some s) = same_prefix s.prefix prefix

-- the greatest number that passes the test, or none where none of them does
abbrev pub IsLast : (ℕ → Bool) → List ℕ → Option ℕ → Type 0
IsLast test numbers (Some n) = (test n ≡ true) × ((m : ℕ) → Contains numbers m → test m ≡ true → m ≤ n)
IsLast test numbers None = (n : ℕ) → Contains numbers n → test n ≡ false

-- each event has a number and a place, and each state is found
pub record IsSound (v : Log) (numbers : Prefix → List ℕ) : Type 0 where
  pub even : length v.places ≡ length v.numbers
  pub hinted : AreHinted numbers v.states
