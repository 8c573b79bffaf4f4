-- The triples of a body name it, so those of bodies that differ are apart.
use Rattle.std.proofs.Common.{◌≡◌, ℕ, true, false, not, List, [], ◌∷◌, Some, None, refl, ◌∙◌, ap}
use Rattle.std.specs.Prelude.{filter_map, bytes_eq}
use Rattle.std.specs.List.{list_all}
use Rattle.std.specs.Cmp.Lexicographic.{bytes_decides}
use Rattle.std.proofs.lemmas.Bool.{and_from, and_parts}
use Rattle.key_state.specs.Exposure.{Rules}
use Rattle.journal.specs.declared.journal.claim.Claim.{Claim}
use Rattle.journal.specs.Journal.Logs.{Body}
use Rattle.journal.specs.Journal.History.{Triple, same_triple, triple_of, claimed_key}
use Rattle.journal.proofs.JournalLemmas.Apart.{Apart}

-- each triple of a body names it
pub all_of : (rules : Rules) (b : Body) (claims : List Claim) → list_all (λ t. bytes_eq t.body b.bytes) (filter_map (triple_of rules b) claims) ≡ true
all_of rules b [] = refl
all_of rules b (c ∷ claims) = elim (claimed_key rules c) as (λ k. claimed_key rules c ≡ k → list_all (λ t. bytes_eq t.body b.bytes) (filter_map (triple_of rules b) (c ∷ claims)) ≡ true) [
  | None ↦ (λ e. rw e (all_of rules b claims))
  | Some k ↦ (λ e. rw e (and_from _ _ ((bytes_decides b.bytes b.bytes).1 refl) (all_of rules b claims)))
] refl

-- so the triples of bodies that differ are apart
pub apart : (b c : List ℕ) → bytes_eq b c ≡ false → (xs ys : List Triple) → list_all (λ t. bytes_eq t.body b) xs ≡ true → list_all (λ t. bytes_eq t.body c) ys ≡ true → Apart same_triple xs ys
apart b c h [] ys of_b of_c = refl
apart b c h (x ∷ xs) ys of_b of_c =
    let parts = and_parts (bytes_eq x.body b) (list_all (λ t. bytes_eq t.body b) xs) of_b in
    and_from _ _ (each ys of_c ((bytes_decides x.body b).0 parts.0)) (apart b c h xs ys parts.1 of_c)
  where
    each : (ys : List Triple) → list_all (λ t. bytes_eq t.body c) ys ≡ true → x.body ≡ b → list_all (λ y. not (same_triple x y)) ys ≡ true
    each [] of_c e = refl
    each (y ∷ ys) of_c e =
        let parts = and_parts (bytes_eq y.body c) (list_all (λ t. bytes_eq t.body c) ys) of_c in
        let f : y.body ≡ c = (bytes_decides y.body c).0 parts.0 in
        let differ : bytes_eq x.body y.body ≡ false = ap (λ t. bytes_eq t y.body) e ∙ ap (bytes_eq b) f ∙ h in
        rw differ (each ys parts.1 e)
