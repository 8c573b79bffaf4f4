-- The bytes of texts one behind the other are those of each.
use Rattle.std.proofs.Common.{◌≡◌, ℕ, ◌-◌, ◌*◌, ◌/◌, List, [], ◌∷◌, ◌++◌, length, refl, sym, ap, ◌∙◌, arith, append_assoc}
use Rattle.lists.specs.KeriSpecs.Base64.{digits_in, number_of_text}
use Rattle.cesr_stream.specs.Domains.{IsTurnable}
use Rattle.cesr_binary.specs.BinaryDomain.{binary_of}

pub binary_of-nil : binary_of [] ≡ []
unfolding binary_of
binary_of-nil = refl

-- texts of whole fours are turned one by one
binary_of-fours : (x y : List ℕ) (q : ℕ) → length x ≡ 4 * q → binary_of (x ++ y) ≡ binary_of x ++ binary_of y
unfolding binary_of
binary_of-fours [] y q e = refl
binary_of-fours (a ∷ []) y q e = absurd (omega (arith, e))
binary_of-fours (a ∷ b ∷ []) y q e = absurd (omega (arith, e))
binary_of-fours (a ∷ b ∷ c ∷ []) y q e = absurd (omega (arith, e))
binary_of-fours (a ∷ b ∷ c ∷ d ∷ x) y q e =
    let three : List ℕ = digits_in 256 3 (number_of_text (a ∷ b ∷ c ∷ d ∷ [])) in
    ap (λ t. three ++ t) (binary_of-fours x y (q - 1) (omega (arith, e))) ∙ sym (append_assoc three (binary_of x) (binary_of y))

pub binary_of-append : (x y : List ℕ) → IsTurnable x → binary_of (x ++ y) ≡ binary_of x ++ binary_of y
binary_of-append x y turnable = let fours = turnable.fours in binary_of-fours x y (length x / 4) (omega (arith, fours))
