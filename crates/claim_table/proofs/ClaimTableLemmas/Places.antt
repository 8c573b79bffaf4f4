-- The entries of the parts, where those of one body change.
use Rattle.std.proofs.Common.{◌≡◌, ℕ, zero, suc, ◌+◌, ◌-◌, Bool, true, false, ◌&&◌, List, [], ◌∷◌, ◌++◌, Option, Some, None, refl, sym, ◌∙◌, ap, subst, set, inl, inr, arith}
use Rattle.std.specs.Prelude.{slice_get, is_some, ◌==◌}
use Rattle.std.proofs.lemmas.Bool.{and_parts, cases_eq}
use Rattle.std.proofs.lemmas.Bool.Decides.{nat_tests}
use Rattle.claim_table.specs.ClaimTable.Counts.{entry_at, is_one}
use Rattle.claim_table.specs.ClaimTable.Entries.{Entries, bit, or_zero, part_entry, same_part}
use Rattle.claim_table.specs.ClaimTable.BodyParts.{BodyPart}
use Rattle.claim_table.specs.declared.claim_table.part.Part.{Part}
use Rattle.claim_table.specs.declared.claim_table.part.Part.TheVariants.{Indexed, Revealed, Backed}
use Rattle.claim_table.proofs.ClaimTableLemmas.Lists.{differ}

equal : (m n : ℕ) → m ≡ n → (m == n) ≡ true
equal m n h = grind (arith, nat_tests, h)

same_itself : (part : Part) → same_part part part ≡ true
same_itself (Indexed n) = equal n n refl
same_itself (Revealed n) = equal n n refl
same_itself (Backed n) = equal n n refl

-- a part of a body is itself
pub one_itself : (body : ℕ) (part : Part) → is_one body (Some part) (record { body = body; part = part }) ≡ true
one_itself body part = ap (λ t. t && same_part part part) (equal body body refl) ∙ same_itself part

-- what is one part of a body is of that body
of_body : (body : ℕ) (part : Option Part) (q : BodyPart) → is_one body part q ≡ true → body ≡ q.body
of_body body None q h = cc
of_body body (Some part) q h = let parts = and_parts (body == q.body) (same_part part q.part) h in let is = parts.0 in grind (arith, nat_tests, is)

-- what stands at a changed place, and elsewhere
pub set_here : {X : Type 0} (xs : List X) (k : ℕ) (x y : X) → slice_get xs k ≡ Some x → slice_get (set xs k y) k ≡ Some y
set_here [] k x y e = cc
set_here (z ∷ xs) zero x y e = refl
set_here (z ∷ xs) (suc k) x y e = set_here xs k x y e

pub set_elsewhere : {X : Type 0} (xs : List X) (k i : ℕ) (y : X) → (i ≡ k → ⊥) → slice_get (set xs k y) i ≡ slice_get xs i
set_elsewhere [] k i y h = refl
set_elsewhere (z ∷ xs) zero zero y h = absurd (h refl)
set_elsewhere (z ∷ xs) zero (suc i) y h = refl
set_elsewhere (z ∷ xs) (suc k) zero y h = refl
set_elsewhere (z ∷ xs) (suc k) (suc i) y h = set_elsewhere xs k i y (λ e. h (ap (λ n. suc n) e))

module _ (trees : List Entries) where
  module _ (body : ℕ) (part : Part) (was now : Entries) (at : slice_get trees body ≡ Some was) where
    -- what is true of each change of an entry at the body, and of no change, is true everywhere
    changed : (P : Bool → Option ℕ → Option ℕ → Type 0) → ((p : Part) → P (same_part part p) (part_entry was p) (part_entry now p)) → ((o : Option ℕ) → P false o o)
        → (q : BodyPart) → P (is_one body (Some part) q) (entry_at (slice_get trees q.body) q.part) (entry_at (slice_get (set trees body now) q.body) q.part)
    changed P here apart q = elim (cases_eq q.body body) [
      | inl same ↦ (
          let one = ap (λ t. t && same_part part q.part) (equal body q.body (sym same)) in
          let old = ap (λ o. entry_at o q.part) (ap (λ n. slice_get trees n) same ∙ at) in
          let new = ap (λ o. entry_at o q.part) (ap (λ n. slice_get (set trees body now) n) same ∙ set_here trees body was now at) in
          subst (λ y. P (is_one body (Some part) q) (entry_at (slice_get trees q.body) q.part) y) (sym new)
          (subst (λ x. P (is_one body (Some part) q) x (part_entry now q.part)) (sym old)
          (subst (λ b. P b (part_entry was q.part) (part_entry now q.part)) (sym one) (here q.part))))
      | inr other ↦ (
          let one = ap (λ t. t && same_part part q.part) (differ body q.body (λ e. other (sym e))) in
          let new = ap (λ o. entry_at o q.part) (set_elsewhere trees body q.body now other) in
          subst (λ y. P (is_one body (Some part) q) (entry_at (slice_get trees q.body) q.part) y) (sym new)
          (subst (λ b. P b (entry_at (slice_get trees q.body) q.part) (entry_at (slice_get trees q.body) q.part)) (sym one) (apart (entry_at (slice_get trees q.body) q.part))))
    ]

    pub counted : ((p : Part) → or_zero (part_entry now p) ≡ or_zero (part_entry was p) + bit (same_part part p))
        → (q : BodyPart) → or_zero (entry_at (slice_get (set trees body now) q.body) q.part) ≡ or_zero (entry_at (slice_get trees q.body) q.part) + bit (is_one body (Some part) q)
    counted h = changed (λ b old new. or_zero new ≡ or_zero old + bit b) h (λ o. omega arith)

    pub uncounted : ((p : Part) → or_zero (part_entry now p) ≡ or_zero (part_entry was p) - bit (same_part part p))
        → (q : BodyPart) → or_zero (entry_at (slice_get (set trees body now) q.body) q.part) ≡ or_zero (entry_at (slice_get trees q.body) q.part) - bit (is_one body (Some part) q)
    uncounted h = changed (λ b old new. or_zero new ≡ or_zero old - bit b) h (λ o. omega arith)

    pub same_amounts : ((p : Part) → or_zero (part_entry now p) ≡ or_zero (part_entry was p))
        → (q : BodyPart) → or_zero (entry_at (slice_get (set trees body now) q.body) q.part) ≡ or_zero (entry_at (slice_get trees q.body) q.part)
    same_amounts h = changed (λ b old new. or_zero new ≡ or_zero old) h (λ o. refl)

    pub same_entries : ((p : Part) → is_some (part_entry now p) ≡ is_some (part_entry was p))
        → (q : BodyPart) → is_some (entry_at (slice_get (set trees body now) q.body) q.part) ≡ is_some (entry_at (slice_get trees q.body) q.part)
    same_entries h = changed (λ b old new. is_some new ≡ is_some old) h (λ o. refl)

    pub more_entries : ((p : Part) → is_some (part_entry was p) ≡ true → is_some (part_entry now p) ≡ true)
        → (q : BodyPart) → is_some (entry_at (slice_get trees q.body) q.part) ≡ true → is_some (entry_at (slice_get (set trees body now) q.body) q.part) ≡ true
    more_entries h = changed (λ b old new. is_some old ≡ true → is_some new ≡ true) h (λ o had. had)

    pub its_entry : ((p : Part) → same_part part p ≡ true → is_some (part_entry now p) ≡ true)
        → (q : BodyPart) → is_one body (Some part) q ≡ true → is_some (entry_at (slice_get (set trees body now) q.body) q.part) ≡ true
    its_entry h = changed (λ b old new. b ≡ true → is_some new ≡ true) h (λ o is. cc)

  -- where there are no entries of a body, none of its parts has one
  pub nothing_there : (body : ℕ) (part : Option Part) → slice_get trees body ≡ None → (q : BodyPart) → is_one body part q ≡ true → entry_at (slice_get trees q.body) q.part ≡ None
  nothing_there body part none q h = ap (λ o. entry_at o q.part) (ap (λ n. slice_get trees n) (sym (of_body body part q h)) ∙ none)

  -- a body more has no entries
  pub pushed : (more : Entries) → more ≡ [] → (q : BodyPart) → entry_at (slice_get (trees ++ more ∷ []) q.body) q.part ≡ entry_at (slice_get trees q.body) q.part
  pushed more empty q = by trees q.body
    where
      by : (trees : List Entries) (n : ℕ) → entry_at (slice_get (trees ++ more ∷ []) n) q.part ≡ entry_at (slice_get trees n) q.part
      by [] zero = rw empty refl
      by [] (suc n) = refl
      by (t ∷ trees) zero = refl
      by (t ∷ trees) (suc n) = by trees n
