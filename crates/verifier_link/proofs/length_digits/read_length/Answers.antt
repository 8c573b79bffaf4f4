use Rattle.std.proofs.Common.{◌≡◌, ◌≢◌, ◌∙◌, ℕ, ◌<◌, ◌≤◌, List, Result, Ok, Err, IfSome, IfNone, sym, ap, subst, arith}
use Rattle.std.specs.List.{list_all}
use Rattle.std.specs.Result.{OkIff, result_ok}
use Rattle.std.proofs.lemmas.Bool.{false≢true}
use Rattle.lists.specs.KeriSpecs.Hex.{is_hex, hex_value}
use Rattle.verifier_link.specs.Questions.{length_text}
use Rattle.verifier_link.proofs.Lengths.{length_text-value, all_hex-length_text, value-length_text}
use Rattle.verifier_link.proofs.length_digits.read_length.Goals as goal

module _ {E : Type 0} (digits : List ℕ) (result : Result ℕ E) (fits : OkIff result (hex_value digits < 65536) (hex_value digits)) where
  found : digits ≡ length_text (hex_value digits) → IfSome (result_ok result) (λ length. digits ≡ length_text length)
  found e = at result fits
    where
      at : (r : Result ℕ E) → OkIff r (hex_value digits < 65536) (hex_value digits) → IfSome (result_ok r) (λ length. digits ≡ length_text length)
      at (Ok n) fits = e ∙ ap length_text (sym fits.1)
      at (Err e) fits = tt

  too_great : IfNone (result_ok result) ((length : ℕ) → length ≤ 65535 → digits ≢ length_text length)
  too_great = at result fits
    where
      at : (r : Result ℕ E) → OkIff r (hex_value digits < 65536) (hex_value digits) → IfNone (result_ok r) ((length : ℕ) → length ≤ 65535 → digits ≢ length_text length)
      at (Ok n) fits = tt
      at (Err e) fits = λ length few is.
          let value : hex_value digits ≡ length = ap hex_value is ∙ value-length_text length (omega arith) in
          fits (omega arith)

pub returns-then-not-all_hex-clause-none : goal.returns-then-not-all_hex-clause-none
returns-then-not-all_hex-clause-none c = λ length few is.
    false≢true (sym c.if-not-all_hex.true ∙ c.all_hex.ensures ∙ ap (list_all is_hex) is ∙ all_hex-length_text length)

pub returns-clause-some : goal.returns-clause-some
returns-clause-some c =
    let digits = c.args.digits.now in
    let spelled = length_text-value digits (sym c.all_hex.ensures ∙ c.if-not-all_hex.false) c.told-digits in
    rw c.ok.ensures.value (found digits c.try_from.result (subst (λ v. OkIff c.try_from.result (v < 65536) v) c.hex_value.ensures c.try_from.ensures) spelled)

pub returns-clause-none : goal.returns-clause-none
returns-clause-none c =
    let digits = c.args.digits.now in
    rw c.ok.ensures.value (too_great digits c.try_from.result (subst (λ v. OkIff c.try_from.result (v < 65536) v) c.hex_value.ensures c.try_from.ensures))
