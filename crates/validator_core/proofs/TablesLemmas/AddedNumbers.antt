-- Numbers that are added to a hint one after the other.
use Rattle.std.proofs.Common.{◌≡◌, ℕ, ◌+◌, ◌<◌, List, [], ◌∷◌, ◌++◌, length, take, subst, inl, inr, get_or}
use Rattle.std.specs.Prelude.{Contains}
use Rattle.std.specs.Prelude.{Result, Ok, Err}
use Rattle.std.specs.Result.{OnOk}
use Rattle.std.proofs.lemmas.List.{take_more}
use Rattle.std.proofs.lemmas.List.Elements.{Contains-append_cases, Contains-append_left, Contains-append_right}
use Rattle.escrow.proofs.EventIndexLemmas.Orders.{Contains-one}
use Rattle.validator_core.specs.Tables.Hints.{KeepsBelow}

pub keeps_more : {K : Type 0} (number : ℕ) (f g h : K → List ℕ) → KeepsBelow number f g → KeepsBelow number g h → KeepsBelow number f h
keeps_more number f g h one two q n low has = two q n low (one q n low has)

-- after one more element the number stands under the key of each element so far
pub added_more : {X K : Type 0} (key : X → K) (xs : List X) (i : ℕ) (x : X) (old new : K → List ℕ) (number : ℕ) → x ≡ get_or xs i x → i < length xs
    → ((y : X) → Contains (take i xs) y → Contains (old (key y)) number) → ((q : K) → Contains (old q) number → Contains (new q) number) → Contains (new (key x)) number
    → (y : X) → Contains (take (i + 1) xs) y → Contains (new (key y)) number
added_more key xs i x old new number is low before level added y has =
    elim (Contains-append_cases (take i xs) (get_or xs i x ∷ []) y (subst (λ ys. Contains ys y) (take_more xs i x low) has)) [
      | inl front ↦ level (key y) (before y front)
      | inr last ↦ subst (λ z. Contains (new (key z)) number) (Contains-one (get_or xs i x) y last) (subst (λ z. Contains (new (key z)) number) is added)
    ]

pub on_ok : {T E : Type 0} {P : Type 0} (r : Result T E) → P → OnOk r P
on_ok (Ok x) p = p
on_ok (Err e) p = tt

pub under_ok : {T E P Q : Type 0} (r : Result T E) → OnOk r P → (P → Q) → OnOk r Q
under_ok (Ok x) p f = f p
under_ok (Err e) p f = p

-- what stays in each of two lists stays in both together
pub hinted_still : (few now many more : List ℕ) (n : ℕ) → (Contains few n → Contains now n) → (Contains many n → Contains more n) → Contains (few ++ many) n → Contains (now ++ more) n
hinted_still few now many more n one two h = elim (Contains-append_cases few many n h) [
  | inl among ↦ Contains-append_left now more n (one among)
  | inr keyed ↦ Contains-append_right now more n (two keyed)
]
