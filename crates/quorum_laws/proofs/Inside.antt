-- What is accepted came: what holds of each body of the base and of the entries holds of each accepted one.
use Rattle.std.proofs.Common.{◌≡◌, ℕ, zero, suc, Bool, List, [], ◌∷◌, ◌++◌, Some, None, Contains, not, refl, sym, ◌∙◌, ap, subst, append_assoc}
use Rattle.std.specs.Prelude.{All, find, filter, flat_map}
use Rattle.std.proofs.lemmas.List.Concat.{flat_map-append}
use Rattle.std.proofs.lemmas.List.Elements.{All-contains, All-contains_itself, All-push, All-weaker, Contains-append_left, filter-append}
use Rattle.journal.specs.Journal.Acceptance.{appended, settled, settled_over, grown_by}
use Rattle.journal.specs.Journal.Accepted.{accepted}
use Rattle.journal.specs.declared.journal.mode.Mode.{Mode}
use Rattle.journal.specs.Journal.History.{Told, taken, bodies}
use Rattle.journal.specs.declared.journal.body.Body.{Body}
use Rattle.journal.specs.Journal.Logs.{same_body}
use Rattle.journal.specs.Journal.Readiness.{is_ready}
use Rattle.key_state.specs.Same.{distinct}
use Rattle.quorum_laws.proofs.Members.{find_contains}

-- what holds of all holds of those at the front
pub All-front : {X : Type 0} (P : X → Type 0) (xs ys : List X) → All P (xs ++ ys) → All P xs
All-front P xs ys every = All-weaker (λ x. Contains xs x) P (λ x c. All-contains P (xs ++ ys) x every (Contains-append_left xs ys x c)) xs (All-contains_itself xs)

-- first comings of a longer list begin with those of the shorter
distinct_extends : {X : Type 0} (same : X → X → Bool) (xs ys : List X) → (new : List X) × (distinct same (xs ++ ys) ≡ distinct same xs ++ new)
unfolding distinct
distinct_extends same [] ys = (distinct same ys, refl)
distinct_extends {X = X} same (x ∷ xs) ys =
    let other : X → Bool = λ y. not (same x y) in
    let (new, e) = distinct_extends same xs ys in
    (filter other new, ap (λ zs. x ∷ filter other zs) e ∙ ap (λ zs. x ∷ zs) (filter-append other (distinct same xs) new))

bodies_extend : (base : List Body) (told later : List Told) → (new : List Body) × (bodies base (told ++ later) ≡ bodies base told ++ new)
unfolding bodies
bodies_extend base told later =
    let (new, e) = distinct_extends same_body (base ++ flat_map taken told) (flat_map taken later) in (
      new,
      ap (λ bs. distinct same_body (base ++ bs)) (flat_map-append taken told later)
          ∙ ap (distinct same_body) (sym (append_assoc base (flat_map taken told) (flat_map taken later))) ∙ e,
    )

module _ (P : Body → Type 0) where
  settled_inside : (ready : List Body → Body → Bool) (all : List Body) → All P all → (n : ℕ) (log : List Body) → All P log → All P (settled ready all n log)
  unfolding settled
  settled_inside ready all every zero log p = p
  settled_inside ready all every (suc n) log p = settled_inside ready all every n (appended (find (ready log) all) log)
      (elim (find (ready log) all) as (λ o. find (ready log) all ≡ o → All P (appended o log)) [
        | None ↦ (λ e. p)
        | Some b ↦ (λ e. All-push P log b p (All-contains P all b every (find_contains (ready log) all b e)))
      ] refl)

  module _ (mode : Mode) (base : List Body) where
    grown_inside : (log : List Body) (earlier later : List Told) → All P (bodies base (earlier ++ later)) → All P log
        → All P (grown_by (is_ready mode) (bodies base) log earlier later)
    unfolding grown_by
    grown_inside log earlier [] every p = p
    grown_inside log earlier (t ∷ later) every p =
        let now = earlier ++ t ∷ [] in
        let longer : All P (bodies base (now ++ later)) = subst (λ told. All P (bodies base told)) (sym (append_assoc earlier (t ∷ []) later)) every in
        let (new, e) = bodies_extend base now later in
        let front = All-front P (bodies base now) new (subst (λ bs. All P bs) e longer) in
        grown_inside (settled_over (is_ready mode) (bodies base) now log) now later longer (settled_inside (is_ready mode now) (bodies base now) front _ log p)

    -- INSIDE
    pub accepted_inside : (told : List Told) → All P base → All P (bodies base told) → All P (accepted mode base told)
    unfolding accepted
    accepted_inside told p every = grown_inside base [] told every p
