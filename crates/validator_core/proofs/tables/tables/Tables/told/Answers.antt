use Rattle.std.proofs.Common.{◌∙◌, ap, subst, sym}
use Rattle.std.specs.Prelude.{Contains, slice_get}
use Rattle.escrow.specs.EventIndex.Keys.{numbers_at}
use Rattle.validator_core.proofs.TablesLemmas.Orders.{name_cmp}
use Rattle.validator_core.proofs.tables.tables.Tables.told.Goals as goal

pub returns-clause-all : goal.returns-clause-all
returns-clause-all c = λ i reader n claims b at there name.
    subst (λ ns. Contains ns i) (sym c.numbers.ensures.those)
    (subst (λ m. Contains (numbers_at name_cmp c.self.inside.told m) i) name
    (c.self.invariant.2.told i reader n claims b (ap (λ v. slice_get v.entries i) c.self.view_is ∙ at) (ap (λ v. slice_get v.held n) c.self.view_is ∙ there)))
