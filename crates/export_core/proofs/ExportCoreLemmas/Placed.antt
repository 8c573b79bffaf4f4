-- The bodies at the places of the accepted ones.
use Rattle.std.proofs.Common.{◌≡◌, ◌+◌, ◌≤◌, ◌<◌, ℕ, zero, suc, List, [], ◌∷◌, ◌++◌, Option, Some, None, length, take, drop, refl, sym, ◌∙◌, ap, arith}
use Rattle.std.specs.Prelude.{All, slice_get}
use Rattle.validator_core.proofs.TablesLemmas.NamedRows.{body_there, chosen_at}
use Rattle.journal.specs.declared.journal.body.Body.{Body}
use Rattle.journal.specs.Journal.Journals.{chosen}
use Rattle.journal.proofs.JournalLemmas.Places.{all_at, some_at}

one_more : (i : ℕ) → i + 1 ≡ suc i
one_more i = omega arith

-- a list is cut at an element
cut_there : {X : Type 0} (xs : List X) (i : ℕ) (x : X) → slice_get xs i ≡ Some x → xs ≡ take i xs ++ x ∷ drop (suc i) xs
cut_there [] i x at = cc
cut_there (y ∷ xs) zero x at = (let is : y ≡ x = cc at in ap (λ z. z ∷ xs) is)
cut_there (y ∷ xs) (suc i) x at = ap (λ ys. y ∷ ys) (cut_there xs i x at)

pub cut_at : {X : Type 0} (xs : List X) (i : ℕ) (x : X) → slice_get xs i ≡ Some x → xs ≡ take i xs ++ x ∷ drop (i + 1) xs
cut_at xs i x at = cut_there xs i x at ∙ ap (λ n. take i xs ++ x ∷ drop n xs) (sym (one_more i))

take_there : {X : Type 0} (xs : List X) (i : ℕ) (x : X) → slice_get xs i ≡ Some x → take (suc i) xs ≡ take i xs ++ x ∷ []
take_there [] i x at = cc
take_there (y ∷ xs) zero x at = (let is : y ≡ x = cc at in ap (λ z. z ∷ []) is)
take_there (y ∷ xs) (suc i) x at = ap (λ ys. y ∷ ys) (take_there xs i x at)

pub take_one : {X : Type 0} (xs : List X) (i : ℕ) (x : X) → slice_get xs i ≡ Some x → take (i + 1) xs ≡ take i xs ++ x ∷ []
take_one xs i x at = ap (λ n. take n xs) (one_more i) ∙ take_there xs i x at

pub take_past : {X : Type 0} (xs : List X) (i : ℕ) → slice_get xs i ≡ None → take i xs ≡ xs
take_past [] zero none = refl
take_past [] (suc i) none = refl
take_past (y ∷ xs) zero none = cc
take_past (y ∷ xs) (suc i) none = ap (λ ys. y ∷ ys) (take_past xs i none)

get_past : {X : Type 0} (xs : List X) (i : ℕ) → length xs ≤ i → slice_get xs i ≡ None
get_past [] i h = refl
get_past (x ∷ xs) zero h = absurd (omega (arith, h))
get_past (x ∷ xs) (suc i) h = get_past xs i (omega (arith, h))

module _ (held : List Body) (ns : List ℕ) (low : All (λ n. n < length held) ns) (log : List Body) (is : chosen held ns ≡ log) where
  at_place : (i : ℕ) → slice_get log i ≡ body_there held (slice_get ns i)
  at_place i = ap (λ xs. slice_get xs i) (sym is) ∙ chosen_at held ns (λ i n at. all_at (λ n. n < length held) ns low i n at) i

  -- NUMBER: what is accepted at a place is the body of the number there
  pub number_there : (i : ℕ) (b : Body) → slice_get log i ≡ Some b → (n : ℕ) × (slice_get ns i ≡ Some n) × (slice_get held n ≡ Some b)
  number_there i b at = by (slice_get ns i) refl
    where
      by : (o : Option ℕ) → slice_get ns i ≡ o → (n : ℕ) × (slice_get ns i ≡ Some n) × (slice_get held n ≡ Some b)
      by None e = (let lost : None ≡ Some b = sym (at_place i ∙ ap (body_there held) e) ∙ at in absurd (cc lost))
      by (Some n) e = (n, e, sym (at_place i ∙ ap (body_there held) e) ∙ at)

  -- and there is one at each number
  pub body_at : (i n : ℕ) → slice_get ns i ≡ Some n → (b : Body) × (slice_get log i ≡ Some b)
  body_at i n at = (let b = some_at held n (all_at (λ n. n < length held) ns low i n at) in (b.0, at_place i ∙ ap (body_there held) at ∙ b.1))

  pub body_below : (i : ℕ) → i < length ns → (b : Body) × (slice_get log i ≡ Some b)
  body_below i h = (let n = some_at ns i h in body_at i n.0 n.1)

  -- past the numbers there is nothing
  pub all_before : (i : ℕ) → length ns ≤ i → take i log ≡ log
  all_before i h = take_past log i (at_place i ∙ ap (body_there held) (get_past ns i h))
