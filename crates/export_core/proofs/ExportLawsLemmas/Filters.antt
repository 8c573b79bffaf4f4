-- What tests leave of lists.
use Rattle.std.proofs.Common.{◌≡◌, Bool, true, false, not, List, [], ◌∷◌, Some, None, refl, sym, ◌∙◌, ap, inl, inr}
use Rattle.std.specs.Prelude.{filter, find}
use Rattle.std.proofs.lemmas.Bool.{cases_Bool}
use Rattle.key_state.specs.Same.{distinct}
use Rattle.key_state.proofs.Among.{Among, distinct_among}

module _ {X : Type 0} where
  -- a test that each member passes, or none
  pub filter_each : (q : X → Bool) (xs : List X) → ((x : X) → Among x xs → q x ≡ true) → filter q xs ≡ xs
  filter_each q [] each = refl
  filter_each q (x ∷ xs) each =
      let here = each x (inl refl) in let ih = filter_each q xs (λ y m. each y (inr m)) in rw (here, ih) refl

  pub filter_no : (q : X → Bool) (xs : List X) → ((x : X) → Among x xs → q x ≡ false) → filter q xs ≡ []
  filter_no q [] each = refl
  filter_no q (x ∷ xs) each =
      let here = each x (inl refl) in let ih = filter_no q xs (λ y m. each y (inr m)) in rw here ih

  -- tests that say the same of each member
  pub filter_alike : (p q : X → Bool) (xs : List X) → ((x : X) → Among x xs → p x ≡ q x) → filter p xs ≡ filter q xs
  filter_alike p q [] each = refl
  filter_alike p q (x ∷ xs) each =
      let here = each x (inl refl) in let ih = filter_alike p q xs (λ y m. each y (inr m)) in rw (here, ih) refl

  -- two tests in either order
  pub filters_turned : (p q : X → Bool) (xs : List X) → filter p (filter q xs) ≡ filter q (filter p xs)
  filters_turned p q [] = refl
  filters_turned p q (x ∷ xs) = (let ih = filters_turned p q xs in elim (cases_Bool (p x)) [
    | inl k ↦ elim (cases_Bool (q x)) [ inl h ↦ rw (k, h, k, ih) refl | inr h ↦ rw (k, h, ih) refl ]
    | inr k ↦ elim (cases_Bool (q x)) [ inl h ↦ rw (k, h, k, ih) refl | inr h ↦ rw (k, h, ih) refl ]
  ])

  -- a test that all pass which another passes
  pub filter_after : (p q : X → Bool) (xs : List X) → ((x : X) → Among x xs → p x ≡ true → q x ≡ true)
      → filter p (filter q xs) ≡ filter p xs
  filter_after p q [] less = refl
  filter_after p q (x ∷ xs) less = (let ih = filter_after p q xs (λ y m. less y (inr m)) in elim (cases_Bool (q x)) [
    | inl h ↦ elim (cases_Bool (p x)) [ inl k ↦ rw (k, h, k, ih) refl | inr k ↦ rw (k, h, k, ih) refl ]
    | inr h ↦ elim (cases_Bool (p x)) [ inl k ↦ (let passes = less x (inl refl) k in cc) | inr k ↦ rw (k, h, ih) refl ]
  ])

  -- first comings of what a test passes, where it passes alike what is the same
  pub distinct_filter : (same : X → X → Bool) (p : X → Bool) (xs : List X)
      → ((x y : X) → Among x xs → Among y xs → same x y ≡ true → p x ≡ p y)
      → distinct same (filter p xs) ≡ filter p (distinct same xs)
  unfolding distinct
  distinct_filter same p [] alike = refl
  distinct_filter same p (x ∷ xs) alike =
      let ih = distinct_filter same p xs (λ y z m n. alike y z (inr m) (inr n)) in
      elim (cases_Bool (p x)) [
        | inl k ↦ (let turned = filters_turned p (λ y. not (same x y)) (distinct same xs) in rw (k, ih, turned) refl)
        | inr k ↦ (let stays = filter_after p (λ y. not (same x y)) (distinct same xs) (others k) in
            rw k (ih ∙ sym stays))
      ]
    where
      others : p x ≡ false → (y : X) → Among y (distinct same xs) → p y ≡ true → not (same x y) ≡ true
      others k y m h = elim (cases_Bool (same x y)) [
        | inl s ↦ (let e = alike x y (inl refl) (inr (distinct_among same xs y m)) s in
            let no : true ≡ false = sym h ∙ sym e ∙ k in cc)
        | inr s ↦ rw s refl
      ]

  -- what one test finds another finds among those of a third, where it passes no more of them
  module _ (test part p : X → Bool) where
    pub find_filter : (xs : List X) (x : X) → ((y : X) → Among y xs → p y ≡ true → part y ≡ true → test y ≡ true)
        → find test xs ≡ Some x → p x ≡ true → part x ≡ true
        → find part (filter p xs) ≡ Some x
    find_filter [] x less e of passes = cc
    find_filter (y ∷ xs) x less e of passes = elim (cases_Bool (test y)) [
      | inl t ↦ (let is : Some y ≡ Some x = rw t at e in let same : y ≡ x = cc in
          let of_y : p y ≡ true = ap p same ∙ of in let passes_y : part y ≡ true = ap part same ∙ passes in
          rw (of_y, passes_y) is)
      | inr t ↦ (let ih = find_filter xs x (λ z m. less z (inr m)) (rw t at e) of passes in elim (cases_Bool (p y)) [
        | inr k ↦ rw k ih
        | inl k ↦ elim (cases_Bool (part y)) [
          | inl h ↦ (let more = less y (inl refl) k h in cc)
          | inr h ↦ rw (k, h) ih
        ]
      ])
    ]

    pub none_filter : (xs : List X) → ((y : X) → Among y xs → p y ≡ true → part y ≡ true → test y ≡ true)
        → find test xs ≡ None → find part (filter p xs) ≡ None
    none_filter [] less e = refl
    none_filter (y ∷ xs) less e = elim (cases_Bool (test y)) [
      | inl t ↦ (let is : Some y ≡ None = rw t at e in cc)
      | inr t ↦ (let ih = none_filter xs (λ z m. less z (inr m)) (rw t at e) in elim (cases_Bool (p y)) [
        | inr k ↦ rw k ih
        | inl k ↦ elim (cases_Bool (part y)) [
          | inl h ↦ (let more = less y (inl refl) k h in cc)
          | inr h ↦ rw (k, h) ih
        ]
      ])
    ]
