-- Filters of the numbers below a bound.
use Rattle.std.proofs.Common.{◌≡◌, ◌∙◌, ℕ, suc, ◌+◌, Bool, cond, [], ◌∷◌, ◌++◌, add-one, ap, refl}
use Rattle.std.specs.Prelude.{filter}
use Rattle.std.proofs.lemmas.List.Elements.{filter-append}
use Rattle.key_state.specs.Exposure.{numbers_below}

pub none_below : numbers_below 0 ≡ []
unfolding numbers_below
none_below = refl

-- one more number
pub filter_below-suc : (p : ℕ → Bool) (n : ℕ) → filter p (numbers_below (suc n)) ≡ filter p (numbers_below n) ++ cond (p n) (n ∷ []) []
unfolding numbers_below
filter_below-suc p n = rw filter-append refl

pub filter_below : (p : ℕ → Bool) (n : ℕ) → filter p (numbers_below (n + 1)) ≡ filter p (numbers_below n) ++ cond (p n) (n ∷ []) []
filter_below p n = ap (λ k. filter p (numbers_below k)) (add-one n) ∙ filter_below-suc p n
