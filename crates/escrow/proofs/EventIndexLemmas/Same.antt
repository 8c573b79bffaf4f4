-- Rising lists with the same numbers are one list.
use Rattle.std.proofs.Common.{◌≡◌, ℕ, ◌+◌, ◌<◌, ◌≤◌, List, [], ◌∷◌, get_or, suc, refl, subst, arith, inl, inr}
use Rattle.std.specs.Prelude.{◌↔◌, Contains}
use Rattle.std.specs.List.Sorted.{IsStrictlyIncreasing}
use Rattle.std.proofs.lemmas.List.Kept.{AllPairs-from_increasing}
use Rattle.escrow.proofs.EventIndexLemmas.Orders.{Contains-cons}

-- the rest of a rising list rises
tail_rising : (x : ℕ) (xs : List ℕ) → IsStrictlyIncreasing (x ∷ xs) → IsStrictlyIncreasing xs
tail_rising x xs rising k more = let e : suc k + 1 ≡ suc (k + 1) = omega arith in subst (λ n. get_or xs k 0 < get_or (x ∷ xs) n 0) e (rising (suc k) (omega (arith, more)))

-- what follows the first of rising numbers is greater
above_first : (x : ℕ) (xs : List ℕ) → IsStrictlyIncreasing (x ∷ xs) → (n : ℕ) → Contains xs n → x < n
above_first x xs rising n h = let less = AllPairs-from_increasing (x ∷ xs) rising 0 (suc h.0) n (omega arith) (omega (arith, h.1)) in omega (arith, less, h.2)

first : (x : ℕ) (xs : List ℕ) → Contains (x ∷ xs) x
first x xs = (Contains-cons x xs x).1 (inl refl)

pub rising_same : (xs ys : List ℕ) → IsStrictlyIncreasing xs → IsStrictlyIncreasing ys → ((n : ℕ) → Contains xs n ↔ Contains ys n) → xs ≡ ys
rising_same [] [] up high same = refl
rising_same [] (y ∷ ys) up high same = let no = (same y).1 (first y ys) in absurd (omega (arith, no.1))
rising_same (x ∷ xs) [] up high same = let no = (same x).0 (first x xs) in absurd (omega (arith, no.1))
rising_same (x ∷ xs) (y ∷ ys) up high same = λ i. heads i ∷ rising_same xs ys (tail_rising x xs up) (tail_rising y ys high) rest i
  where
    least : (a : ℕ) (bs : List ℕ) → IsStrictlyIncreasing (a ∷ bs) → (n : ℕ) → Contains (a ∷ bs) n → a ≤ n
    least a bs rising n h = elim ((Contains-cons a bs n).0 h) [ inl e ↦ omega (arith, e) | inr more ↦ (let less = above_first a bs rising n more in omega (arith, less)) ]

    heads : x ≡ y
    heads = let one = least x xs up y ((same y).1 (first y ys)) in let two = least y ys high x ((same x).0 (first x xs)) in omega (arith, one, two)

    rest : (n : ℕ) → Contains xs n ↔ Contains ys n
    rest n = (
      λ h. let less = above_first x xs up n h in elim ((Contains-cons y ys n).0 ((same n).0 ((Contains-cons x xs n).1 (inr h)))) [ inl e ↦ absurd (omega (arith, e, heads, less)) | inr more ↦ more ],
      λ h. let less = above_first y ys high n h in elim ((Contains-cons x xs n).0 ((same n).1 ((Contains-cons y ys n).1 (inr h)))) [ inl e ↦ absurd (omega (arith, e, heads, less)) | inr more ↦ more ],
    )
