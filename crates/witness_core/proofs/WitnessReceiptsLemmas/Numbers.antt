-- Accepted events by the numbers of their bodies.
use Rattle.std.proofs.Common.{◌≡◌, ℕ, zero, suc, ◌+◌, ◌<◌, ◌≤◌, ◌==◌, Bool, true, false, List, [], ◌∷◌, ◌++◌, length, take, drop, Some, None, refl, sym, ap, subst, ◌∙◌, arith, inl, inr, append_assoc}
use Rattle.std.specs.Prelude.{All, cond, filter, find, flat_map, position, slice_get, nat_lt}
use Rattle.std.specs.List.{list_any, position_or_len}
use Rattle.std.proofs.lemmas.Bool.{cases_Bool, ltb-false, or_parts}
use Rattle.std.proofs.lemmas.List.{drop_more}
use Rattle.std.proofs.lemmas.List.Folds.{find_at}
use Rattle.std.proofs.lemmas.List.Quantifiers.{position-Some}
use Rattle.std.proofs.lemmas.List.Elements.{All-head, All-tail}
use Rattle.std.proofs.lemmas.Option.{get_or_from_slice_get, slice_get_past, slice_get_within}
use Rattle.validator_core.proofs.TablesLemmas.NamedRows.{body_there, chosen_at}
use Rattle.journal.specs.declared.journal.body.Body.{Body}
use Rattle.journal.specs.Journal.History.{bodies, taken}
use Rattle.journal.specs.Journal.Journals.{chosen}
use Rattle.journal.specs.Journal.Logs.{is_in, same_body}
use Rattle.journal.proofs.JournalLemmas.Different.{Differ, differ-distinct}
use Rattle.journal.proofs.JournalLemmas.Places.{all_at, any_at, found_at, some_at}
use Rattle.validator_core.proofs.AcceptanceLemmas.Bodies.{among}
use Rattle.key_state.proofs.Same.{number_itself, numbers}
use Rattle.validator_core.specs.ValidatorCore.View.{CoreView, IsSoundCore, accepted_by, base_of, told_of}

-- no two bodies of a core are the same
pub apart : (core : CoreView) → IsSoundCore core → Differ same_body core.held
unfolding bodies
apart core stands = subst (Differ same_body) (sym stands.in_order) (differ-distinct same_body (base_of core ++ flat_map taken (told_of core)))

-- the elements from a place on
pub drop_at : {X : Type 0} (xs : List X) (i : ℕ) (x : X) → slice_get xs i ≡ Some x → drop i xs ≡ x ∷ drop (i + 1) xs
drop_at xs i x at = drop_more xs i x (slice_get_within xs i x at) ∙ ap (λ y. y ∷ drop (i + 1) xs) (get_or_from_slice_get xs i x x at)

pub drop_none : {X : Type 0} (xs : List X) (i : ℕ) → length xs ≤ i → drop i xs ≡ []
drop_none [] zero h = refl
drop_none [] (suc i) h = refl
drop_none (x ∷ xs) zero h = absurd (omega (arith, h))
drop_none (x ∷ xs) (suc i) h = drop_none xs i (omega (arith, h))

module _ (held : List Body) where
  -- the bodies of numbers that are held: those of the first numbers, how many there are, and which stands at a place
  pub take-chosen : (ns : List ℕ) (k : ℕ) → All (λ n. n < length held) ns → take k (chosen held ns) ≡ chosen held (take k ns)
  unfolding chosen
  take-chosen [] zero low = refl
  take-chosen [] (suc k) low = refl
  take-chosen (n ∷ ns) zero low = refl
  take-chosen (n ∷ ns) (suc k) low =
      let b = some_at held n (All-head (λ n. n < length held) n ns low) in
      let is = b.1 in
      let ih = take-chosen ns k (All-tail (λ n. n < length held) n ns low) in
      rw is (ap (λ bs. b.0 ∷ bs) ih)

  pub length-chosen : (ns : List ℕ) → All (λ n. n < length held) ns → length (chosen held ns) ≡ length ns
  unfolding chosen
  length-chosen [] low = refl
  length-chosen (n ∷ ns) low =
      let b = some_at held n (All-head (λ n. n < length held) n ns low) in
      let is = b.1 in
      let ih = length-chosen ns (All-tail (λ n. n < length held) n ns low) in
      rw is (ap suc ih)

  pub chosen_there : (ns : List ℕ) (i n : ℕ) (b : Body) → All (λ n. n < length held) ns → slice_get ns i ≡ Some n → slice_get held n ≡ Some b
      → slice_get (chosen held ns) i ≡ Some b
  chosen_there ns i n b low number at =
      chosen_at held ns (λ j m there. all_at (λ n. n < length held) ns low j m there) i ∙ ap (body_there held) number ∙ at

-- what passes a test from a place on, where those before are kept already
module _ {X : Type 0} (q : X → Bool) (xs all kept : List X) (i : ℕ) (x : X) (at : slice_get xs i ≡ Some x) (so_far : kept ++ filter q (drop i xs) ≡ all) where
  pub keeps_one : q x ≡ true → (kept ++ x ∷ []) ++ filter q (drop (i + 1) xs) ≡ all
  keeps_one h =
      append_assoc kept (x ∷ []) (filter q (drop (i + 1) xs))
      ∙ ap (λ ys. kept ++ ys) (sym (ap (filter q) (drop_at xs i x at) ∙ rw h refl))
      ∙ so_far

  pub skips_one : q x ≡ false → kept ++ filter q (drop (i + 1) xs) ≡ all
  skips_one h = ap (λ ys. kept ++ ys) (sym (ap (filter q) (drop_at xs i x at) ∙ rw h refl)) ∙ so_far

-- where none stands first, none is found
unplaced : {X : Type 0} (test : X → Bool) (xs : List X) → position test xs ≡ None → find test xs ≡ None
unplaced test xs e = find_at test xs ∙ beyond (of (nat_lt (position_or_len test xs) (length xs)) refl e)
  where
    of : (inside : Bool) → nat_lt (position_or_len test xs) (length xs) ≡ inside → cond inside (Some (position_or_len test xs)) None ≡ None
        → nat_lt (position_or_len test xs) (length xs) ≡ false
    of true is e = cc
    of false is e = is

    beyond : nat_lt (position_or_len test xs) (length xs) ≡ false → slice_get xs (position_or_len test xs) ≡ None
    beyond h = slice_get_past xs (position_or_len test xs) (ltb-false (position_or_len test xs) (length xs) h)

-- where one passes, some is found
pub found_some : {X : Type 0} (test : X → Bool) (xs : List X) → list_any test xs ≡ true → (y : X) × (find test xs ≡ Some y)
found_some test [] h = cc
found_some test (x ∷ xs) h = elim (cases_Bool (test x)) [
  | inl k ↦ (x, rw k refl)
  | inr k ↦ (let more = found_some test xs (rw k at h) in (more.0, rw k more.1))
]

-- where none stands first, none passes
pub any_none : {X : Type 0} (q : X → Bool) (xs : List X) → position q xs ≡ None → list_any q xs ≡ false
any_none q xs h = elim (cases_Bool (list_any q xs)) [
  | inr none ↦ none
  | inl any ↦ (let some = found_some q xs any in
      let lost : None ≡ Some some.0 = sym (unplaced q xs h) ∙ some.1 in cc)
]

-- the first elements, and the places there
taken_at : {X : Type 0} (xs : List X) (front k : ℕ) (x : X) → slice_get (take front xs) k ≡ Some x → (k < front) × (slice_get xs k ≡ Some x)
taken_at [] zero k x e = cc
taken_at [] (suc front) k x e = cc
taken_at (y ∷ xs) zero k x e = cc
taken_at (y ∷ xs) (suc front) zero x e = (omega arith, e)
taken_at (y ∷ xs) (suc front) (suc k) x e = let more = taken_at xs front k x e in (omega (arith, more.0), more.1)

at_taken : {X : Type 0} (xs : List X) (front k : ℕ) (x : X) → k < front → slice_get xs k ≡ Some x → slice_get (take front xs) k ≡ Some x
at_taken [] front k x h e = cc
at_taken (y ∷ xs) zero k x h e = absurd (omega (arith, h))
at_taken (y ∷ xs) (suc front) zero x h e = e
at_taken (y ∷ xs) (suc front) (suc k) x h e = at_taken xs front k x (omega (arith, h)) e

any_taken : {X : Type 0} (q : X → Bool) (xs : List X) (front : ℕ) → list_any q xs ≡ false → list_any q (take front xs) ≡ false
any_taken q [] zero h = refl
any_taken q [] (suc front) h = refl
any_taken q (x ∷ xs) zero h = refl
any_taken q (x ∷ xs) (suc front) h =
    let parts = or_parts (q x) (list_any q xs) h in
    let here = parts.0 in
    let ih = any_taken q xs front parts.1 in
    rw (here, ih) refl

-- whether one that passes is among the first elements, by where the first of them all stands
module _ {X : Type 0} (q : X → Bool) (xs : List X) (front : ℕ) where
  pub before_none : position q xs ≡ None → list_any q (take front xs) ≡ false
  before_none h = any_taken q xs front (any_none q xs h)

  module _ (p : ℕ) (h : position q xs ≡ Some p) where
    pub before_some : (x : X) → slice_get xs p ≡ Some x → p < front → list_any q (take front xs) ≡ true
    before_some x at low =
        let there = position-Some q xs p x h in
        any_at q (take front xs) p x (at_taken xs front p x low at) (subst (λ y. q y ≡ true) (get_or_from_slice_get xs p x x at) there.1)

    pub before_late : front ≤ p → list_any q (take front xs) ≡ false
    before_late late = elim (cases_Bool (list_any q (take front xs))) [
      | inr none ↦ none
      | inl any ↦ (let f = found_at q (take front xs) any in
          let at = taken_at xs front f.0 f.1 f.2 in
          let before = (position-Some q xs p f.1 h).2 f.0 (omega (arith, at.0, late)) in
          let other : q f.1 ≡ false = subst (λ y. q y ≡ false) (get_or_from_slice_get xs f.0 f.1 f.1 at.1) before in
          cc (other, f.3))
    ]

    -- that one passes
    pub first_passes : (x : X) → slice_get xs p ≡ Some x → q x ≡ true
    first_passes x at = subst (λ y. q y ≡ true) (get_or_from_slice_get xs p x x at) (position-Some q xs p x h).1

    pub first_within : (d : X) → p < length xs
    first_within d = (position-Some q xs p d h).0

-- ACCEPTED: by the place of its number among the accepted ones, a body is accepted, and stands at that place
module _ (core : CoreView) (stands : IsSoundCore core) (low : All (λ n. n < length core.held) core.accepted) (are : chosen core.held core.accepted ≡ accepted_by core)
    (n : ℕ) (b : Body) (at : slice_get core.held n ≡ Some b) where
  accepted_by_number : is_in (accepted_by core) b ≡ list_any (λ m. m == n) core.accepted
  accepted_by_number =
      ap (λ log. is_in log b) (sym are)
      ∙ among core.held (apart core stands) n b at core.accepted (λ i m there. all_at (λ n. n < length core.held) core.accepted low i m there)

  pub not_stored : position (λ m. m == n) core.accepted ≡ None → is_in (accepted_by core) b ≡ false
  not_stored h = accepted_by_number ∙ any_none (λ m. m == n) core.accepted h

  module _ (p : ℕ) (h : position (λ m. m == n) core.accepted ≡ Some p) where
    pub number_there : slice_get core.accepted p ≡ Some n
    number_there =
        let m = some_at core.accepted p (first_within (λ m. m == n) core.accepted 0 p h 0) in
        m.1 ∙ ap Some (numbers m.0 n (first_passes (λ m. m == n) core.accepted 0 p h m.0 m.1))

    pub stored : is_in (accepted_by core) b ≡ true
    stored = accepted_by_number ∙ any_at (λ m. m == n) core.accepted p n number_there (number_itself n)

    pub stands_there : slice_get (accepted_by core) p ≡ Some b
    stands_there = subst (λ log. slice_get log p ≡ Some b) are (chosen_there core.held core.accepted p n b low number_there at)
