-- How many numbers below a bound pass a test.
use Rattle.std.proofs.Common.{◌≡◌, ℕ, zero, suc, ◌+◌, Bool, sym, ◌∙◌, ap, arith, length}
use Rattle.std.specs.Prelude.{filter}
use Rattle.claim_table.specs.ClaimTable.Parts.{count_below}
use Rattle.journal.proofs.EventRulesLemmas.Filters.{passing_more}
use Rattle.key_state.specs.Exposure.{numbers_below}
use Rattle.key_state.proofs.Numbers.{none_below}

pub passing_below : (p : ℕ → Bool) (n : ℕ) → length (filter p (numbers_below n)) ≡ count_below p n
passing_below p zero = ap (λ xs. length (filter p xs)) none_below
passing_below p (suc n) =
    let next : n + 1 ≡ suc n = omega arith in let more = sym (ap (λ k. length (filter p (numbers_below k))) next) ∙ passing_more p n in
    let before = passing_below p n in omega (arith, more, before)
