use Rattle.std.proofs.Common.{sym, subst, inl, inr, arith, refl}
use Rattle.std.specs.Prelude.{Contains}
use Rattle.escrow.proofs.event_index.index.replace_from.Goals as goal

pub returns-in_err-reserve-clause-kept : goal.returns-in_err-reserve-clause-kept
returns-in_err-reserve-clause-kept c = λ n low h. subst (λ xs. Contains xs n) (sym c.reserve.ensures.same) ((c.cut.ensures.left n).1 (low, h))

pub insert-requires-clause-new : goal.insert-requires-clause-new
insert-requires-clause-new c = λ h. omega (arith, ((c.cut.ensures.left c.args.number).0 (subst (λ xs. Contains xs c.args.number) c.reserve.ensures.same h)).0)

pub returns-clause-added : goal.returns-clause-added
returns-clause-added c = (c.insert.ensures c.args.number).1 (inl refl)

pub returns-clause-kept : goal.returns-clause-kept
returns-clause-kept c = λ n low h. (c.insert.ensures n).1 (inr (subst (λ xs. Contains xs n) (sym c.reserve.ensures.same) ((c.cut.ensures.left n).1 (low, h))))
