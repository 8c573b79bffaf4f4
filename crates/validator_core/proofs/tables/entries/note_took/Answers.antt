use Rattle.std.proofs.Common.{subst}
use Rattle.std.specs.Prelude.{Contains}
use Rattle.std.specs.Result.{OnOk}
use Rattle.escrow.specs.EventIndex.Keys.{numbers_at}
use Rattle.journal.specs.declared.journal.claim.Claim.{Claim}
use Rattle.validator_core.specs.Tables.ClaimEntries.{came_at}
use Rattle.validator_core.specs.Tables.Hints.{KeepsBelow}
use Rattle.validator_core.specs.Tables.Names.{claim_key}
use Rattle.validator_core.proofs.TablesLemmas.AddedNumbers.{on_ok}
use Rattle.validator_core.proofs.TablesLemmas.Orders.{name_cmp}
use Rattle.validator_core.proofs.tables.entries.note_took.Goals as goal

pub returns-in_err-add-clause-kept_told : goal.returns-in_err-add-clause-kept_told
returns-in_err-add-clause-kept_told c = subst (λ k. KeepsBelow k (numbers_at name_cmp c.args.told.now) (numbers_at name_cmp c.add.new.self)) c.in_ok-number.ensures.ok c.add.ensures.kept

pub returns-clause-told : goal.returns-clause-told
returns-clause-told c =
    let added = subst (Contains (numbers_at name_cmp c.add.new.self c.name_of.result)) c.in_ok-number.ensures.ok c.in_ok-add.ensures.added in
    on_ok c.add-2.result (subst (λ m. Contains (numbers_at name_cmp c.add.new.self m) c.args.count) c.name_of.ensures added)

pub returns-clause-came : goal.returns-clause-came
returns-clause-came c =
    subst (λ k. OnOk c.add-2.result ((x : Claim) → Contains c.args.claims.now x → Contains (came_at c.add-2.new.self (claim_key c.args.body x)) k)) c.in_ok-number.ensures.ok
    c.add-2.ensures.added

pub returns-clause-kept_told : goal.returns-clause-kept_told
returns-clause-kept_told c = subst (λ k. KeepsBelow k (numbers_at name_cmp c.args.told.now) (numbers_at name_cmp c.add.new.self)) c.in_ok-number.ensures.ok c.add.ensures.kept

pub returns-clause-kept_came : goal.returns-clause-kept_came
returns-clause-kept_came c = subst (λ k. KeepsBelow k (came_at c.args.came.now) (came_at c.add-2.new.self)) c.in_ok-number.ensures.ok c.add-2.ensures.kept
