-- The orders of the keys.
use Rattle.std.specs.declared.cmp.Ordering.{Ordering}
use Rattle.std.specs.declared.cmp.Ord as ord
use Rattle.validator_core.specs.declared.tables.name.Name.{Name}
use Rattle.validator_core.specs.declared.tables.name.SealKey.{SealKey}
use Rattle.validator_core.specs.declared.tables.name.ClaimKey.{ClaimKey}
use Rattle.validator_core.specs.contracts.tables.name.NameOrd.TheImpl as name_order
use Rattle.validator_core.specs.contracts.tables.name.SealKeyOrd.TheImpl as seal_order
use Rattle.validator_core.specs.contracts.tables.name.ClaimKeyOrd.TheImpl as claim_order
use denote.Param as param

abbrev pub name_cmp : Name → Name → Ordering
name_cmp = param.read (ord.Ghosts.cmp {X-1 = Name}) name_order.ghosts

abbrev pub seal_cmp : SealKey → SealKey → Ordering
seal_cmp = param.read (ord.Ghosts.cmp {X-1 = SealKey}) seal_order.ghosts

abbrev pub claim_cmp : ClaimKey → ClaimKey → Ordering
claim_cmp = param.read (ord.Ghosts.cmp {X-1 = ClaimKey}) claim_order.ghosts
