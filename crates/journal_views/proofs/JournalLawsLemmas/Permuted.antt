-- Lists of different elements with the same members have the same elements in some order.
use Rattle.std.proofs.Common.{◌≡◌, Bool, true, not, List, [], ◌∷◌, ◌++◌, refl, sym, subst, inl, inr}
use Rattle.std.specs.Prelude.{filter, flat_map}
use Rattle.std.specs.List.Sorted.{IsPermutation}
use Rattle.std.proofs.lemmas.Bool.{cases_Bool, not-true}
use Rattle.std.proofs.lemmas.List.Sorted.{IsPermutation-refl, IsPermutation-sym, IsPermutation-cons, IsPermutation-middle, IsPermutation-trans, Contains-permutation}
use Rattle.journal.proofs.JournalLemmas.Different.{Differ}
use Rattle.key_state.proofs.Among.{Among, among, contained, among_either, among_left, among_right, left_among, parted}
use Rattle.journal_views.proofs.JournalLawsLemmas.Came.{all_pass}

-- no element comes again
abbrev pub NoneAgain : {X : Type 0} → List X → Type 0
NoneAgain [] = Unit {0}
NoneAgain (x ∷ xs) = (Among x xs → ⊥) × NoneAgain xs

module _ {X : Type 0} where
  pub differ_once : (same : X → X → Bool) → ((x : X) → same x x ≡ true) → (xs : List X) → Differ same xs → NoneAgain xs
  differ_once same itself [] d = tt
  differ_once same itself (x ∷ xs) d = ((λ m. let other = not-true _ (all_pass (λ y. not (same x y)) xs x d.0 m) in let here = itself x in absurd (cc (other, here))), differ_once same itself xs d.1)

  pub filter_once : (q : X → Bool) (xs : List X) → NoneAgain xs → NoneAgain (filter q xs)
  filter_once q [] n = tt
  filter_once q (x ∷ xs) n = elim (cases_Bool (q x)) [
    | inl k ↦ rw k ((λ m. n.0 (left_among q xs x m).0), filter_once q xs n.1)
    | inr k ↦ rw k (filter_once q xs n.1)
  ]

  without : (front later : List X) (x : X) → NoneAgain (front ++ x ∷ later) → NoneAgain (front ++ later) × (Among x (front ++ later) → ⊥)
  without [] later x n = (n.1, n.0)
  without (y ∷ front) later x n = (let r = without front later x n.1 in (
    ((λ m. n.0 (elim (among_either front later y m) as (λ _. Among y (front ++ x ∷ later)) [ inl l ↦ among_left front (x ∷ later) y l | inr k ↦ among_right front (x ∷ later) y (inr k) ])), r.0),
    (λ m. elim m as (λ _. ⊥) [ inl e ↦ n.0 (subst (λ z. Among z (front ++ x ∷ later)) (sym e) (among_right front (x ∷ later) x (inl refl))) | inr k ↦ r.1 k ]),
  ))

  -- PERMUTED
  pub permuted : (xs ys : List X) → NoneAgain xs → NoneAgain ys → ((x : X) → Among x xs → Among x ys) → ((x : X) → Among x ys → Among x xs) → IsPermutation xs ys
  permuted [] [] n k f g = IsPermutation-refl []
  permuted [] (y ∷ ys) n k f g = absurd (g y (inl refl))
  permuted (x ∷ xs) ys n k f g =
      let (front, later, split) = parted ys x (f x (inl refl)) in
      let w = without front later x (subst NoneAgain split k) in
      let there : (z : X) → Among z xs → Among z (front ++ later) = λ z m. elim (among_either front (x ∷ later) z (subst (λ zs. Among z zs) split (f z (inr m)))) as (λ _. Among z (front ++ later)) [
        | inl l ↦ among_left front later z l
        | inr (inl e) ↦ absurd (n.0 (subst (λ z. Among z xs) (sym e) m))
        | inr (inr r) ↦ among_right front later z r
      ] in
      let back : (z : X) → Among z (front ++ later) → Among z xs = λ z m. elim (g z (subst (λ zs. Among z zs) (sym split) (elim (among_either front later z m) as (λ _. Among z (front ++ x ∷ later)) [ inl l ↦ among_left front (x ∷ later) z l | inr r ↦ among_right front (x ∷ later) z (inr r) ]))) as (λ _. Among z xs) [
        | inl e ↦ absurd (w.1 (subst (λ z. Among z (front ++ later)) (sym e) m))
        | inr r ↦ r
      ] in
      subst (IsPermutation (x ∷ xs)) (sym split)
      (IsPermutation-trans (x ∷ xs) (x ∷ (front ++ later)) (front ++ x ∷ later) (IsPermutation-cons x xs (front ++ later) (permuted xs (front ++ later) n.1 w.0 there back))
      (IsPermutation-sym (front ++ x ∷ later) (x ∷ (front ++ later)) (IsPermutation-middle front x later)))

-- LISTED: what is listed in order of some members is listed of the same members in another order, where each has the same lines
pub listed : {X B : Type 0} (f g : X → List B) (xs ys ordered : List X) → IsPermutation xs ordered → IsPermutation xs ys → ((x : X) → Among x xs → f x ≡ g x)
    → IsPermutation ys ordered × (flat_map f ordered ≡ flat_map g ordered)
listed f g xs ys ordered to other same =
    let back = IsPermutation-sym xs ordered to in (
      IsPermutation-trans ys xs ordered (IsPermutation-sym xs ys other) to,
      lines f g ordered (λ x m. same x (among xs x (Contains-permutation ordered xs x back (contained ordered x m)))),
    )
  where
    lines : {X B : Type 0} (f g : X → List B) (xs : List X) → ((x : X) → Among x xs → f x ≡ g x) → flat_map f xs ≡ flat_map g xs
    lines f g [] h = refl
    lines f g (x ∷ xs) h = (let here = h x (inl refl) in let more = lines f g xs (λ y m. h y (inr m)) in λ i. here i ++ more i)
