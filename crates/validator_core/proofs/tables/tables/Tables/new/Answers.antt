use Rattle.validator_core.proofs.TablesLemmas.Nothing.{hinted_start, view_start}
use Rattle.validator_core.proofs.tables.tables.Tables.new.Goals as goal

pub invariant_of-result : goal.invariant_of-result
invariant_of-result c = hinted_start _ _ _ _ c.new.ensures c.new-2.ensures c.new-3.ensures.items c.new-4.ensures.empty _ c.new-5.ensures _ _ _ _ _ _ c.new-6.ensures.waiters

pub returns : goal.returns
returns c = view_start _ _ _ _ c.new.ensures c.new-2.ensures c.new-3.ensures.items c.new-4.ensures.empty _ c.new-5.ensures
