-- Lists of eight words.
use Rattle.std.proofs.Common.{◌≡◌, ◌∙◌, ℕ, List, [], ◌∷◌, ◌++◌, length, slice_index, refl, ap, arith}

-- the first eight words of a list, one by one
abbrev pub eight : List ℕ → List ℕ
eight xs = slice_index xs 0 ∷ slice_index xs 1 ∷ slice_index xs 2 ∷ slice_index xs 3
    ∷ slice_index xs 4 ∷ slice_index xs 5 ∷ slice_index xs 6 ∷ slice_index xs 7 ∷ []

-- a list of eight words is its words
pub eight-same : (xs : List ℕ) → length xs ≡ 8 → eight xs ≡ xs
eight-same (a ∷ b ∷ c ∷ d ∷ e ∷ f ∷ g ∷ h ∷ []) is = refl
eight-same _ is = absurd (omega arith)

-- two such lists put together
pub eight-append : (xs ys : List ℕ) → length xs ≡ 8 → length ys ≡ 8 → eight xs ++ eight ys ≡ xs ++ ys
eight-append xs ys x y =
    ap (λ (l : List ℕ). eight xs ++ l) (eight-same ys y) ∙ ap (λ (l : List ℕ). l ++ ys) (eight-same xs x)
