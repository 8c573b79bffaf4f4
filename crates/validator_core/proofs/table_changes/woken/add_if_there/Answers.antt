use Rattle.std.proofs.Common.{◌≡◌, Bool, true, false, sym, ◌∙◌, subst, inl, inr}
use Rattle.std.specs.Prelude.{Contains}
use Rattle.claim_table.specs.CoreLaws.Waking.{is_anchored, is_there}
use Rattle.validator_core.specs.Tables.View.{log_of}
use Rattle.validator_core.specs.TableChanges.Awaited.{IsNextAt}
use Rattle.validator_core.proofs.TableChangesLemmas.Waking.{due_is}
use Rattle.validator_core.proofs.TableChangesLemmas.DueNumbers.{inserted_kept, inserted_or, inserted_there}
use Rattle.validator_core.proofs.table_changes.woken.add_if_there.Goals as goal

pub returns-clause-kept : goal.returns-clause-kept
returns-clause-kept c = λ n has. subst (λ ks. Contains ks n) (sym c.in_ok-insert.ensures.keys) (inserted_kept c.args.due.now.keys c.args.number n has)

pub returns-clause-there : goal.returns-clause-there
returns-clause-there c = λ b at all. subst (λ ks. Contains ks c.args.number) (sym c.in_ok-insert.ensures.keys) (inserted_there c.args.due.now.keys c.args.number)

pub returns-clause-few : goal.returns-clause-few
returns-clause-few c = λ n has.
    elim (inserted_or c.args.due.now.keys c.args.number n (subst (λ ks. Contains ks n) c.in_ok-insert.ensures.keys has)) [
      | inl there ↦ inl there
      | inr same ↦ inr (same, subst (IsNextAt c.args.mode c.args.tables.now) same (λ b at. sym (c.is_next.ensures b at) ∙ c.if-not-is_next.false))
    ]

pub returns-then-not-is_next-clause-there : goal.returns-then-not-is_next-clause-there
returns-then-not-is_next-clause-there c = λ b at all.
    let v = c.args.tables.now in
    let next = due_is v.held v.log.numbers c.args.number b (is_there (log_of v) b) (is_anchored c.args.mode (log_of v) b) at all in
    let is = c.is_next.ensures b at in
    let not_it = c.if-not-is_next.true in absurd (both next is not_it)
  where
    both : {x y : Bool} → y ≡ true → x ≡ y → x ≡ false → ⊥
    both one is other = cc
