use Rattle.std.proofs.Common.{◌≡◌, true, Some, ◌∙◌, ap, subst, sym}
use Rattle.claim_table.specs.ClaimTable.Rows.{heard, is_raised, verdict_of}
use Rattle.claim_table.proofs.ClaimTableLemmas.Rows.{raised_set}
use Rattle.validator_core.specs.Tables.Inside.{view_of}
use Rattle.validator_core.specs.Tables.View.{View}
use Rattle.validator_core.proofs.TablesLemmas.Marks.{table_is, with_new}
use Rattle.validator_core.proofs.TablesLemmas.Rows.{some_is}
use Rattle.validator_core.proofs.tables.tables.Tables.hear.Goals as goal

pub hear-requires-clause-raised : goal.hear-requires-clause-raised
hear-requires-clause-raised c = ap (λ (v : View). is_raised v.claims.rows c.args.signature.now) c.self.view_is ∙ c.requires.raised

pub hear-requires-clause-open_still : goal.hear-requires-clause-open_still
hear-requires-clause-open_still c = ap (λ (v : View). verdict_of v.claims.rows c.args.signature.now) c.self.view_is ∙ c.requires.open_still

pub hear-requires-clause-idle : goal.hear-requires-clause-idle
hear-requires-clause-idle c = ap (λ (v : View). v.claims.pending) c.self.view_is ∙ c.requires.idle

pub invariant_of-self : goal.invariant_of-self
invariant_of-self c =
    let sig = c.args.signature.now in
    let raised = ap (λ (v : View). is_raised v.claims.rows sig) c.self.view_is ∙ c.requires.raised in (
      c.self.invariant.0,
      λ s is. subst (λ x. is_raised c.hear.new.self.rows x ≡ true) (some_is sig s (sym c.hear.ensures.pending ∙ is))
          (ap (λ rs. is_raised rs sig) c.hear.ensures.rows ∙ raised_set sig sig (Some c.args.verdict) c.self.inside.claims.rows ∙ raised),
      c.self.invariant.2,
    )

pub returns-clause-heard : goal.returns-clause-heard
returns-clause-heard c =
    with_new (view_of c.self.inside) c.args.self.now c.hear.new.self _ c.self.view_is
    (table_is c.hear.new.self _ _ (c.hear.ensures.rows ∙ ap (λ (v : View). heard c.args.signature.now c.args.verdict v.claims.rows) c.self.view_is) c.hear.ensures.pending)

pub returns-clause-back : goal.returns-clause-back
returns-clause-back c = c.hear.ensures.back ∙ ap (λ (v : View). v.claims.rows) c.self.view_is
