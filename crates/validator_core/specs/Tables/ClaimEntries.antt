-- The entries by which a claim came with a body.
use Rattle.std.specs.Prelude.{ℕ, List, ◌++◌}
use Rattle.std.specs.declared.cmp.Ordering.{Ordering}
use Rattle.std.specs.declared.cmp.Ord as ord
use Rattle.claim_table.specs.ClaimTable.Hinted.{few_at}
use Rattle.escrow.specs.EventIndex.Keys.{numbers_at}
use Rattle.validator_core.specs.contracts.tables.name.ClaimKeyOrd.TheImpl as claim_order
use Rattle.validator_core.specs.declared.tables.claim_entries.ClaimEntries.{ClaimEntries}
use Rattle.validator_core.specs.declared.tables.name.ClaimKey.{ClaimKey}
use denote.Param as param

-- the order of the keys
abbrev pub claim_cmp : ClaimKey → ClaimKey → Ordering
claim_cmp = param.read (ord.Ghosts.cmp {X-1 = ClaimKey}) claim_order.ghosts

-- the numbers of entries at a claim
abbrev pub came_at : ClaimEntries → ClaimKey → List ℕ
came_at came q = few_at came.few q.body ++ numbers_at claim_cmp came.many q
