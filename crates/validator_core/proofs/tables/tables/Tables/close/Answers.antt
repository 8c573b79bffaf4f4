use Rattle.std.proofs.Common.{◌∙◌, ap, sym}
use Rattle.validator_core.specs.Tables.Inside.{view_of}
use Rattle.validator_core.specs.Tables.View.{View}
use Rattle.validator_core.proofs.TablesLemmas.Marks.{table_is, with_new}
use Rattle.validator_core.proofs.TablesLemmas.Rows.{not_some}
use Rattle.validator_core.proofs.tables.tables.Tables.close.Goals as goal

pub invariant_of-self : goal.invariant_of-self
invariant_of-self c = (c.self.invariant.0, λ s is. absurd (not_some s (sym c.close.ensures.pending ∙ is)), c.self.invariant.2)

pub returns : goal.returns
returns c =
    with_new (view_of c.self.inside) c.args.self.now c.close.new.self _ c.self.view_is
    (table_is c.close.new.self _ _ (c.close.ensures.rows ∙ ap (λ (v : View). v.claims.rows) c.self.view_is) c.close.ensures.pending)
