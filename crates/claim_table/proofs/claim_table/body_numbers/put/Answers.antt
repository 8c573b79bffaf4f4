use Rattle.std.proofs.Common.{refl, sym, subst, inl, inr}
use Rattle.std.specs.Prelude.{Contains}
use Rattle.claim_table.proofs.claim_table.body_numbers.put.Goals as goal

pub returns-clause-added : goal.returns-clause-added
returns-clause-added c = λ is. (c.insert.ensures c.args.number).1 (inl refl)

pub returns-clause-kept : goal.returns-clause-kept
returns-clause-kept c = λ n h. (c.insert.ensures n).1 (inr (subst (λ ks. Contains ks n) (sym c.reserve.ensures.same) h))
