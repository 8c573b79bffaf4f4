-- Tests of equality of keys, and filters of lists of keys.
use Rattle.std.proofs.Common.{◌≡◌, Bool, true, false, ◌&&◌, ◌||◌, List, [], ◌∷◌, refl, sym, ◌∙◌, ap, subst, inl, inr}
use Rattle.std.specs.Prelude.{filter}
use Rattle.std.proofs.lemmas.Bool.{cases_Bool}
use Rattle.cesr_codes.specs.declared.key.Key.{Key}
use Rattle.key_state.proofs.Same.{same_key_is, same_key_itself}
use Rattle.key_state.specs.Same.{same_key, has_key}

pub same_key-turned : (k l : Key) → same_key k l ≡ same_key l k
same_key-turned k l = elim (cases_Bool (same_key k l)) [
  | inl h ↦ (let P : Key → Type 0 = λ m. same_key k m ≡ same_key m k in subst P (same_key_is k l h) refl)
  | inr h ↦ elim (cases_Bool (same_key l k)) [
    | inl g ↦ (let P : Key → Type 0 = λ m. same_key k m ≡ same_key m k in subst P (sym (same_key_is l k g)) refl)
    | inr g ↦ h ∙ sym g
  ]
]

-- a key for another that is the same
pub same_key-moved : (k l m : Key) → same_key k l ≡ true → same_key k m ≡ same_key l m
same_key-moved k l m h = ap (λ x. same_key x m) (same_key_is k l h)

pub or_right : (a b : Bool) → b ≡ true → (a || b) ≡ true
or_right true b h = refl
or_right false b h = h

and_none : (b : Bool) → (b && false) ≡ false
and_none true = refl
and_none false = refl

-- filters by tests that agree on the members
pub filter_alike : (p q : Key → Bool) (xs : List Key) → ((x : Key) → has_key xs x ≡ true → p x ≡ q x) → filter p xs ≡ filter q xs
filter_alike p q [] h = refl
filter_alike p q (x ∷ xs) h =
    let itself = same_key_itself x in
    let here : p x ≡ q x = h x (rw itself refl) in
    let rest : filter p xs ≡ filter q xs = filter_alike p q xs (λ y k. h y (or_right (same_key x y) (has_key xs y) k)) in
    elim (cases_Bool (q x)) [
      | inl t ↦ (let p_too : p x ≡ true = here ∙ t in rw (p_too, t, rest) refl)
      | inr f ↦ (let p_too : p x ≡ false = here ∙ f in rw (p_too, f, rest) refl)
    ]

-- a key stays where it passes
pub has_key-filter : (p : Key → Bool) (xs : List Key) (x : Key) → has_key (filter p xs) x ≡ (has_key xs x && p x)
has_key-filter p [] x = refl
has_key-filter p (y ∷ ys) x =
    let ih = has_key-filter p ys x in
    elim (cases_Bool (same_key y x)) [
      | inl s ↦ (let e : p y ≡ p x = ap p (same_key_is y x s) in elim (cases_Bool (p x)) [
        | inl t ↦ (let y_too : p y ≡ true = e ∙ t in rw (y_too, s, t) refl)
        | inr f ↦ (let y_too : p y ≡ false = e ∙ f in rw (y_too, s, f) (ih ∙ rw f (and_none (has_key ys x))))
      ])
      | inr s ↦ elim (cases_Bool (p y)) [ inl t ↦ rw (t, s) ih | inr f ↦ rw (f, s) ih ]
    ]

pub filter_none : (xs : List Key) → filter (λ x. false) xs ≡ []
filter_none [] = refl
filter_none (x ∷ xs) = filter_none xs
