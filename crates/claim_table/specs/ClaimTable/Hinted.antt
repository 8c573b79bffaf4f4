-- What an index has at a key of a body.
use Rattle.std.specs.Prelude.{ℕ, List, [], ◌++◌, length, nat_lt, slice_get, if◌then◌else◌}
use Rattle.std.specs.declared.cmp.Ordering.{Ordering}
use Rattle.escrow.specs.EventIndex.Keys.{numbers_at, numbers_in}
use Rattle.escrow.specs.EventIndex.Numbers.{Numbers}
use Rattle.claim_table.specs.declared.claim_table.body_index.BodyIndex.{BodyIndex}
use Rattle.claim_table.specs.declared.claim_table.body_numbers.BodyNumbers.{BodyNumbers}

-- the numbers of a body, and none where there is no place for it
abbrev pub few_in : List Numbers → ℕ → List ℕ
few_in lists body = numbers_in (slice_get lists body)

-- the numbers that have keys, where those that have none are many enough
abbrev pub shown : List ℕ → List ℕ → List ℕ
shown few many = if nat_lt (length few) 8 then [] else many

-- the numbers of a body
abbrev pub few_at : BodyNumbers → ℕ → List ℕ
few_at table body = few_in table.few.items body

module _ {K : Type 0} where
  -- further numbers at one key
  abbrev pub many_at : (K → K → Ordering) → BodyIndex K → ℕ → K → List ℕ
  many_at cmp index body q = shown (few_at index.few body) (numbers_at cmp index.many q)

  -- all numbers at a key
  abbrev pub hints_at : (K → K → Ordering) → BodyIndex K → ℕ → K → List ℕ
  hints_at cmp index body q = few_at index.few body ++ many_at cmp index body q
