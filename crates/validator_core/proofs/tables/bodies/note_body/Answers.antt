use Rattle.std.proofs.Common.{◌∙◌, subst}
use Rattle.std.specs.Prelude.{Contains}
use Rattle.escrow.specs.EventIndex.Keys.{numbers_at}
use Rattle.validator_core.specs.Tables.Hints.{KeepsBelow}
use Rattle.validator_core.proofs.TablesLemmas.Orders.{name_cmp}
use Rattle.validator_core.proofs.tables.bodies.note_body.Goals as goal

pub returns-in_err-add-clause-kept : goal.returns-in_err-add-clause-kept
returns-in_err-add-clause-kept c =
    let count = c.in_ok-number.ensures.ok ∙ c.len.ensures ∙ c.reserve.ensures.len ∙ c.args.events.now.ok.0 in
    subst (λ k. KeepsBelow k (numbers_at name_cmp c.args.names.now) (numbers_at name_cmp c.add.new.self)) count c.add.ensures.kept

pub returns-clause-named : goal.returns-clause-named
returns-clause-named c =
    let count = c.in_ok-number.ensures.ok ∙ c.len.ensures ∙ c.reserve.ensures.len ∙ c.args.events.now.ok.0 in
    subst (Contains (numbers_at name_cmp c.add.new.self _)) count (subst (λ m. Contains (numbers_at name_cmp c.add.new.self m) c.in_ok-number.number) c.name_of.ensures c.in_ok-add.ensures.added)

pub returns-clause-kept : goal.returns-clause-kept
returns-clause-kept c =
    let count = c.in_ok-number.ensures.ok ∙ c.len.ensures ∙ c.reserve.ensures.len ∙ c.args.events.now.ok.0 in
    subst (λ k. KeepsBelow k (numbers_at name_cmp c.args.names.now) (numbers_at name_cmp c.add.new.self)) count c.add.ensures.kept
