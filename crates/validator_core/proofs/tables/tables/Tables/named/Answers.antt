use Rattle.std.proofs.Common.{◌∙◌, ap, subst, sym}
use Rattle.std.specs.Prelude.{Contains, slice_get}
use Rattle.escrow.specs.EventIndex.Keys.{numbers_at}
use Rattle.validator_core.proofs.TablesLemmas.Orders.{name_cmp}
use Rattle.validator_core.proofs.tables.tables.Tables.named.Goals as goal

pub returns-clause-all : goal.returns-clause-all
returns-clause-all c = λ n b at name.
    subst (λ ns. Contains ns n) (sym c.numbers.ensures.those)
    (subst (λ m. Contains (numbers_at name_cmp c.self.inside.names m) n) name (c.self.invariant.2.named n b (ap (λ v. slice_get v.held n) c.self.view_is ∙ at)))
