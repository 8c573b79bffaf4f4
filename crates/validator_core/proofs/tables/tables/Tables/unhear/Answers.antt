use Rattle.std.proofs.Common.{◌∙◌, ap, sym}
use Rattle.claim_table.specs.ClaimTable.Rows.{unheard}
use Rattle.validator_core.specs.Tables.Inside.{view_of}
use Rattle.validator_core.specs.Tables.View.{View}
use Rattle.validator_core.proofs.TablesLemmas.Marks.{table_is, with_new}
use Rattle.validator_core.proofs.TablesLemmas.Rows.{not_some}
use Rattle.validator_core.proofs.tables.tables.Tables.unhear.Goals as goal

pub unhear-requires : goal.unhear-requires
unhear-requires c = λ none. c.requires (ap (λ (v : View). v.claims.pending) (sym c.self.view_is) ∙ none)

pub invariant_of-self : goal.invariant_of-self
invariant_of-self c = (c.self.invariant.0, λ s is. absurd (not_some s (sym c.unhear.ensures.pending ∙ is)), c.self.invariant.2)

pub returns : goal.returns
returns c = λ s is.
    with_new (view_of c.self.inside) c.args.self.now c.unhear.new.self _ c.self.view_is
    (table_is c.unhear.new.self _ _ (c.unhear.ensures.rows s (ap (λ (v : View). v.claims.pending) c.self.view_is ∙ is) ∙ ap (λ (v : View). unheard s v.claims.rows) c.self.view_is) c.unhear.ensures.pending)
