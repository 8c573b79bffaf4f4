use Rattle.std.proofs.Common.{ℕ, Bool, cond, [], ◌∷◌, ◌++◌, take, get_or, sym, ◌∙◌, ap, append-nil}
use Rattle.std.specs.Prelude.{filter, slice_get}
use Rattle.std.proofs.lemmas.List.Elements.{filter_more}
use Rattle.validator_core.specs.Tables.View.{log_of}
use Rattle.validator_core.specs.TableChanges.Awaited.{is_awaited_there}
use Rattle.validator_core.proofs.table_changes.woken.waiters.Goals.{then-is_awaited_at+in_ok-push, else-is_awaited_at}
use Rattle.validator_core.proofs.table_changes.woken.waiters.Goals as goal

pub loop-waiting-preserved : goal.loop-waiting-preserved
loop-waiting-preserved c =
    let v = c.args.tables.now in let xs = c.args.numbers.now in let i = c.loop-waiting.waiting-index in
    let p = λ (n : ℕ). is_awaited_there c.args.mode (log_of v) (slice_get v.held c.args.number) (slice_get v.held n) in
    let x = get_or xs i 0 in
    let more = filter_more p xs i 0 c.loop-waiting-test.true in
    elim c.if-is_awaited_at.branch [
      | then-is_awaited_at+in_ok-push w ↦ (let passes = sym c.is_awaited_at.ensures ∙ w.if-is_awaited_at.true in
          ap (λ (l : _). l.items) w.those-is ∙ w.in_ok-push.ensures.items ∙ ap (λ ns. ns ++ x ∷ []) c.loop-waiting.invariant
          ∙ sym (more ∙ ap (λ (y : Bool). filter p (take i xs) ++ cond y (x ∷ []) []) passes))
      | else-is_awaited_at w ↦ (let fails = sym c.is_awaited_at.ensures ∙ w.if-is_awaited_at.false in
          ap (λ (l : _). l.items) w.those-is ∙ c.loop-waiting.invariant
          ∙ sym (more ∙ ap (λ (y : Bool). filter p (take i xs) ++ cond y (x ∷ []) []) fails ∙ append-nil (filter p (take i xs))))
    ]
