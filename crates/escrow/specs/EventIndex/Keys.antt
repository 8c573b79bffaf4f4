-- What an index has at a key.
use Rattle.std.specs.Prelude.{ℕ, List, [], Option, Some, None}
use Rattle.std.specs.declared.cmp.Ordering.{Ordering}
use Rattle.std.specs.BTreeMap as tree
use Rattle.escrow.specs.EventIndex.Numbers.{Numbers}
use Rattle.escrow.specs.declared.event_index.index.Index.{Index}

-- the numbers of an entry, and none where there is no entry
abbrev pub numbers_in : Option Numbers → List ℕ
numbers_in None = []
numbers_in (Some those) = those.list

-- the numbers at a key
abbrev pub numbers_at : {K : Type 0} → (K → K → Ordering) → Index K → K → List ℕ
numbers_at cmp index key = numbers_in (tree.get cmp index.numbers key)
