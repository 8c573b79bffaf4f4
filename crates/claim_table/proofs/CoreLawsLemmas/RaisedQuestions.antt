-- What a journal raises, body by body: the triples of bodies that differ are apart.
use Rattle.std.proofs.Common.{◌≡◌, true, not, List, [], ◌∷◌, ◌++◌, refl, ◌∙◌, ap, inl, inr}
use Rattle.std.specs.Prelude.{filter, flat_map, bytes_eq}
use Rattle.std.specs.List.{list_all}
use Rattle.std.proofs.lemmas.Bool.{cases_Bool, and_from, and_parts, not-true}
use Rattle.std.proofs.lemmas.List.Folds.{list_all-append}
use Rattle.key_state.specs.Same.{distinct}
use Rattle.key_state.specs.Exposure.{own_rules}
use Rattle.journal.specs.declared.journal.mode.Mode.{Mode}
use Rattle.journal.specs.declared.journal.body.Body.{Body}
use Rattle.journal.specs.Journal.Logs.{same_body, stands}
use Rattle.journal.specs.Journal.History.{Told, Triple, same_triple, claims_on, taken, bodies, has_verdict}
use Rattle.journal.specs.Journal.Accepted.{accepted}
use Rattle.journal.specs.Journal.Questions.{state_before, raised_by, raised, questions}
use Rattle.journal.proofs.JournalLemmas.Apart.{Apart, AllApart, distinct-flat_map, filter-flat_map}
use Rattle.journal.proofs.JournalLemmas.Asking.{all_of, apart}
use Rattle.journal.proofs.JournalLemmas.Different.{Differ, differ-distinct}

-- each triple that a body raises names it
pub own_of : (told : List Told) (log : List Body) (b : Body) → list_all (λ t. bytes_eq t.body b.bytes) (raised_by told log b) ≡ true
unfolding raised_by
own_of told log b = elim (cases_Bool (stands log b)) [
  | inl k ↦ rw k (all_of (own_rules (state_before log b) b.event) b (claims_on told b))
  | inr k ↦ rw k refl
]

apart_append : (xs ys zs : List Triple) → Apart same_triple xs ys → Apart same_triple xs zs → Apart same_triple xs (ys ++ zs)
apart_append [] ys zs h k = refl
apart_append (x ∷ xs) ys zs h k =
    let here = and_parts (list_all (λ y. not (same_triple x y)) ys) _ h in
    let there = and_parts (list_all (λ y. not (same_triple x y)) zs) _ k in
    and_from _ _ (list_all-append (λ y. not (same_triple x y)) ys zs ∙ and_from _ _ here.0 there.0) (apart_append xs ys zs here.1 there.1)

apart_nothing : (xs : List Triple) → Apart same_triple xs []
apart_nothing [] = refl
apart_nothing (x ∷ xs) = apart_nothing xs

apart_from_all : (told : List Told) (log : List Body) (b : Body) (bs : List Body) → list_all (λ c. not (same_body b c)) bs ≡ true → Apart same_triple (raised_by told log b) (flat_map (raised_by told log) bs)
apart_from_all told log b [] h = apart_nothing (raised_by told log b)
apart_from_all told log b (c ∷ bs) h =
    let parts = and_parts (not (same_body b c)) (list_all (λ d. not (same_body b d)) bs) h in
    apart_append (raised_by told log b) (raised_by told log c) (flat_map (raised_by told log) bs)
    (apart b.bytes c.bytes (not-true _ parts.0) (raised_by told log b) (raised_by told log c) (own_of told log b) (own_of told log c)) (apart_from_all told log b bs parts.1)

all_apart : (told : List Told) (log bs : List Body) → Differ same_body bs → AllApart same_triple (raised_by told log) bs
all_apart told log [] d = tt
all_apart told log (b ∷ bs) d = (apart_from_all told log b bs d.0, all_apart told log bs d.1)

-- the questions of a body that are open
abbrev pub open_on : List Told → List Body → Body → List Triple
open_on told log b = filter (λ t. not (has_verdict told t)) (distinct same_triple (raised_by told log b))

module _ (mode : Mode) (base : List Body) (told : List Told) where
  abbrev all_bodies : List Body
  all_bodies = bodies base told

  bodies_differ : Differ same_body (bodies base told)
  unfolding bodies
  bodies_differ = differ-distinct same_body (base ++ flat_map taken told)

  -- RAISED: what the bodies raise, one after the other
  pub raised_are : raised mode base told ≡ flat_map (λ b. distinct same_triple (raised_by told (accepted mode base told) b)) (bodies base told)
  unfolding raised
  raised_are = distinct-flat_map same_triple (raised_by told (accepted mode base told)) (bodies base told) (all_apart told (accepted mode base told) (bodies base told) bodies_differ)

  -- QUESTIONS: those of the bodies, one after the other
  pub questions_are : questions mode base told ≡ flat_map (open_on told (accepted mode base told)) (bodies base told)
  unfolding questions
  questions_are = ap (filter (λ t. not (has_verdict told t))) raised_are
      ∙ filter-flat_map (λ t. not (has_verdict told t)) (λ b. distinct same_triple (raised_by told (accepted mode base told) b)) (bodies base told)
