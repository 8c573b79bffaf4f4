use Rattle.std.proofs.Common.{[], refl, subst, sym}
use Rattle.validator_core.specs.ValidatorCore.Base.{IsBase}
use Rattle.validator_core.proofs.ValidatorCoreLemmas.Bases.{nothing_base, released_base}
use Rattle.validator_core.proofs.validator_core.base.tables_of.Goals as goal

pub add_texts-requires-clause-begun : goal.add_texts-requires-clause-begun
add_texts-requires-clause-begun c = subst (IsBase []) (sym c.new-tables.ensures) nothing_base

pub returns-in-Ok-clause-ok : goal.returns-in-Ok-clause-ok
returns-in-Ok-clause-ok c = rw c.release.ensures (released_base _ _ _ c.in-Ok.ensures.ok, refl)
