use Rattle.std.proofs.Common.{ℕ, ◌<◌, ◌^◌, rules, sym, subst, arith}
use Rattle.std.proofs.lemmas.Grind.{common_steps}
use Rattle.std.proofs.lemmas.Fmt.{IsAscii-decimal}
use Rattle.std.proofs.lemmas.Str.{IsUtf8-from_ascii}
use Rattle.std.specs.Str.{IsUtf8}
use Rattle.sith.proofs.Decimals.{IsDecimalOf, decimal_is, one_decimal}
use Rattle.sith.proofs.decimal.read_decimal.Goals as goal

pub returns-then-matches-clause-none : goal.returns-then-matches-clause-none
returns-then-matches-clause-none c = λ n few is.
    let spelled : IsDecimalOf n c.args.digits.now = subst (IsDecimalOf n) (sym is) (decimal_is n few) in
    grind (arith, common_steps)

pub returns-in-Ok-parse-clause-some : goal.returns-in-Ok-parse-clause-some
returns-in-Ok-parse-clause-some c =
    let is : IsDecimalOf c.in-Ok-parse.number c.args.digits.now = search rules in
    one_decimal _ _ (omega arith) is

pub returns-in-Err-parse-clause-none : goal.returns-in-Err-parse-clause-none
returns-in-Err-parse-clause-none c =
    let none : (n : ℕ) → n < 2 ^ 32 → ¬ IsDecimalOf n c.args.digits.now = search rules in
    λ n few is. none n few (subst (IsDecimalOf n) (sym is) (decimal_is n few))

pub returns-in-Err-clause-none : goal.returns-in-Err-clause-none
returns-in-Err-clause-none c = λ n few is. c.in-Err.ensures.cases.0 (subst IsUtf8 (sym is) (IsUtf8-from_ascii _ (IsAscii-decimal n (omega arith))))
