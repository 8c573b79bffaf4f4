-- Each element at its first coming: what one more element adds.
use Rattle.std.proofs.Common.{◌≡◌, Bool, true, false, not, List, [], ◌∷◌, ◌++◌, refl, sym, ◌∙◌, ap, inl, inr, append-nil, ◌≤◌, length, arith}
use Rattle.std.specs.Prelude.{filter, bytes_eq}
use Rattle.std.specs.List.{list_any}
use Rattle.std.specs.Cmp.Lexicographic.{bytes_decides}
use Rattle.std.proofs.lemmas.List.Elements.{filter-append}
use Rattle.std.proofs.lemmas.Bool.{cases_Bool, or_parts, or_cases}
use Rattle.std.proofs.lemmas.List.Filters.{length-filter_both}
use Rattle.key_state.specs.Same.{distinct}
use Rattle.journal.specs.Journal.Logs.{Body, same_body}

module _ {X : Type 0} (same : X → X → Bool) where
  -- one that is new comes last
  pub distinct-push_new : (x : X) (xs : List X) → list_any (λ y. same y x) xs ≡ false → distinct same (xs ++ x ∷ []) ≡ distinct same xs ++ x ∷ []
  unfolding distinct
  distinct-push_new x [] h = refl
  distinct-push_new x (y ∷ xs) h =
      let parts = or_parts (same y x) (list_any (λ y. same y x) xs) h in
      let e = distinct-push_new x xs parts.1 in
      let other = parts.0 in
      rw (e, filter-append, other) refl

  -- one that came before adds nothing
  pub distinct-push_old : (x : X) (xs : List X) → list_any (λ y. same y x) xs ≡ true → distinct same (xs ++ x ∷ []) ≡ distinct same xs
  unfolding distinct
  distinct-push_old x [] h = cc
  distinct-push_old x (y ∷ xs) h = elim (cases_Bool (list_any (λ y. same y x) xs)) [
    | inl k ↦ (let e = distinct-push_old x xs k in rw e refl)
    | inr k ↦ (let e = distinct-push_new x xs k in
        let here = elim (or_cases (same y x) (list_any (λ y. same y x) xs) h) as (λ _. same y x ≡ true) [ inl t ↦ t | inr t ↦ cc (t, k) ] in
        rw (e, filter-append, here) (simp append-nil))
  ]

  -- one is among the first comings exactly where it is among all
  module _ (moves : (x y z : X) → same y z ≡ true → same z x ≡ same y x) where
    any-filter : (x y : X) (xs : List X) → same y x ≡ false → list_any (λ z. same z x) (filter (λ z. not (same y z)) xs) ≡ list_any (λ z. same z x) xs
    any-filter x y [] h = refl
    any-filter x y (z ∷ xs) h = elim (cases_Bool (same y z)) [
      | inl k ↦ (let e : same z x ≡ false = moves x y z k ∙ h in let ih = any-filter x y xs h in rw (k, e) ih)
      | inr k ↦ (let ih = any-filter x y xs h in rw (k, ih) refl)
    ]

    pub any-distinct : (x : X) (xs : List X) → list_any (λ y. same y x) (distinct same xs) ≡ list_any (λ y. same y x) xs
    unfolding distinct
    any-distinct x [] = refl
    any-distinct x (y ∷ xs) = elim (cases_Bool (same y x)) [
      | inl k ↦ rw k refl
      | inr k ↦ (let e = any-filter x y (distinct same xs) k in let ih = any-distinct x xs in rw (k, e, ih) refl)
    ]

-- bodies of the same bytes are the same as any third alike
pub same_body-moves : (x y z : Body) → same_body y z ≡ true → same_body z x ≡ same_body y x
same_body-moves x y z h = ap (λ b. bytes_eq b x.bytes) (sym ((bytes_decides y.bytes z.bytes).0 h))

-- first comings are no more than all
distinct_shorter : {X : Type 0} (same : X → X → Bool) (xs : List X) → length (distinct same xs) ≤ length xs
unfolding distinct
distinct_shorter same [] = omega arith
distinct_shorter same (x ∷ xs) =
    omega (arith, length-filter_both (λ y. not (same x y)) (λ y. not (not (same x y))) (λ y. refl) (distinct same xs), distinct_shorter same xs)
