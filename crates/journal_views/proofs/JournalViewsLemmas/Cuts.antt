-- Elements, cut into groups of one place.
use Rattle.std.proofs.Common.{◌≡◌, true, false, List, [], ◌∷◌, ◌++◌, length, map, refl, sym, ◌∙◌, ap, inl, inr, All, Ordering}
use Rattle.std.specs.Prelude.{nat_le}
use Rattle.std.specs.Ordering.{is_ne}
use Rattle.std.proofs.lemmas.Bool.{cases_Bool}
use Rattle.std.proofs.lemmas.List.{length-map, map-append}
use Rattle.std.proofs.lemmas.List.Elements.{All-append, All-head, All-nil, All-push, All-tail}
use Rattle.journal_views.specs.JournalViews.Groups.{as_set, cut, is_apart}

module _ {X : Type 0} (place : X → X → Ordering) where
  pub cut-end : (group : List X) → cut place group [] ≡ as_set group
  unfolding cut
  cut-end group = refl

  pub cut-apart : (group : List X) (x : X) (xs : List X) → is_apart place group x ≡ true → cut place group (x ∷ xs) ≡ as_set group ++ cut place (x ∷ []) xs
  unfolding cut
  cut-apart group x xs k = rw k refl

  pub cut-here : (group : List X) (x : X) (xs : List X) → is_apart place group x ≡ false → cut place group (x ∷ xs) ≡ cut place (group ++ x ∷ []) xs
  unfolding cut
  cut-here group x xs k = rw k refl

  All-set : (P : X → Type 0) (group : List X) → All P group → All (All P) (as_set group)
  All-set P group all = elim (cases_Bool (nat_le 2 (length group))) [
    | inl k ↦ rw k (All-push (All P) [] group (All-nil (All P)) all)
    | inr k ↦ rw k (All-nil (All P))
  ]

  -- what holds of all elements holds of those of the sets
  pub All-cut : (P : X → Type 0) (group rest : List X) → All P group → All P rest → All (All P) (cut place group rest)
  All-cut P group [] of_group of_rest = rw (cut-end group) (All-set P group of_group)
  All-cut P group (x ∷ rest) of_group of_rest =
      let here = All-head P x rest of_rest in
      let more = All-tail P x rest of_rest in
      elim (cases_Bool (is_apart place group x)) [
        | inl k ↦ rw (cut-apart group x rest k) (All-append (All P) (as_set group) (cut place (x ∷ []) rest) (All-set P group of_group)
            (All-cut P (x ∷ []) rest (All-push P [] x (All-nil P) here) more))
        | inr k ↦ rw (cut-here group x rest k) (All-cut P (group ++ x ∷ []) rest (All-push P group x of_group here) more)
      ]

-- the sets of what is told of elements
module _ {X Y : Type 0} (f : X → Y) (place : X → X → Ordering) (told : Y → Y → Ordering) (P : X → Type 0)
    (same : (x y : X) → P x → P y → is_ne (told (f x) (f y)) ≡ is_ne (place x y)) where
  apart-map : (group : List X) (x : X) → All P group → P x → is_apart told (map f group) (f x) ≡ is_apart place group x
  apart-map [] x all p = refl
  apart-map (y ∷ group) x all p = same y x (All-head P y group all) p

  set-map : (group : List X) → map (map f) (as_set group) ≡ as_set (map f group)
  set-map group = rw (length-map group f) (elim (cases_Bool (nat_le 2 (length group))) [ inl k ↦ rw k refl | inr k ↦ rw k refl ])

  pub cut-map : (group rest : List X) → All P group → All P rest → map (map f) (cut place group rest) ≡ cut told (map f group) (map f rest)
  cut-map group [] of_group of_rest = ap (map (map f)) (cut-end place group) ∙ set-map group ∙ sym (cut-end told (map f group))
  cut-map group (x ∷ rest) of_group of_rest =
      let here = All-head P x rest of_rest in
      let more = All-tail P x rest of_rest in
      let there = apart-map group x of_group here in
      elim (cases_Bool (is_apart place group x)) [
        | inl k ↦ ap (map (map f)) (cut-apart place group x rest k) ∙ map-append (map f) (as_set group) (cut place (x ∷ []) rest)
            ∙ ap (λ sets. sets ++ map (map f) (cut place (x ∷ []) rest)) (set-map group)
            ∙ ap (λ sets. as_set (map f group) ++ sets) (cut-map (x ∷ []) rest (All-push P [] x (All-nil P) here) more)
            ∙ sym (cut-apart told (map f group) (f x) (map f rest) (there ∙ k))
        | inr k ↦ ap (map (map f)) (cut-here place group x rest k) ∙ cut-map (group ++ x ∷ []) rest (All-push P group x of_group here) more
            ∙ ap (λ g. cut told g (map f rest)) (map-append f group (x ∷ [])) ∙ sym (cut-here told (map f group) (f x) (map f rest) (there ∙ k))
      ]
