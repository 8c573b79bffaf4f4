use Rattle.std.proofs.Common.{◌≡◌, ℕ, ◌<◌, ◌^◌, Ok, rules, sym, subst, ap, arith, ◌∙◌}
use Rattle.std.specs.Str.{IsUtf8}
use Rattle.std.proofs.lemmas.Grind.{common_steps}
use Rattle.std.proofs.lemmas.Fmt.{IsAscii-decimal, decimal_injective}
use Rattle.std.proofs.lemmas.Str.{IsUtf8-from_ascii}
use Rattle.sith.proofs.Decimals.{IsDecimalOf, decimal_is, one_decimal}
use Rattle.controller_core.proofs.plan_text.number.read_index.Goals as goal

pub returns-then-matches-clause-only : goal.returns-then-matches-clause-only
returns-then-matches-clause-only c = λ n few is.
    let spelled : IsDecimalOf n c.args.digits.now = subst (IsDecimalOf n) (sym is) (decimal_is n (omega arith)) in
    absurd (grind (arith, common_steps))

pub returns-in_default-from_utf8-clause-only : goal.returns-in_default-from_utf8-clause-only
returns-in_default-from_utf8-clause-only c = λ n few is.
    absurd (c.in_default-from_utf8.ensures.cases.0 (subst IsUtf8 (sym is) (IsUtf8-from_ascii _ (IsAscii-decimal n (omega arith)))))

pub returns-in-Ok-parse-clause-some : goal.returns-in-Ok-parse-clause-some
returns-in-Ok-parse-clause-some c =
    let is : IsDecimalOf c.in-Ok-parse.number c.args.digits.now = search rules in
    (omega arith, one_decimal _ _ (omega arith) is)

pub returns-in-Ok-parse-clause-only : goal.returns-in-Ok-parse-clause-only
returns-in-Ok-parse-clause-only c = λ n few e.
    let is : IsDecimalOf c.in-Ok-parse.number c.args.digits.now = search rules in
    let same : c.in-Ok-parse.number ≡ n = decimal_injective _ _ (omega arith) (omega arith) (sym (one_decimal _ _ (omega arith) is) ∙ e) in
    ap Ok same

pub returns-in-Err-clause-only : goal.returns-in-Err-clause-only
returns-in-Err-clause-only c =
    let none : (n : ℕ) → n < 2 ^ 16 → ¬ IsDecimalOf n c.args.digits.now = search rules in
    λ n few is. absurd (none n few (subst (IsDecimalOf n) (sym is) (decimal_is n (omega arith))))
