-- The event of a number, in the map and in what it is seen as.
use Rattle.std.proofs.Common.{◌≡◌, ℕ, Bool, true, false, cond, List, [], ◌∷◌, refl, sym, ap, ◌∙◌, inl, inr, nat_eq, Some}
use Rattle.std.specs.Prelude.{◌==◌, Option}
use Rattle.std.proofs.lemmas.Bool.{cases_Bool}
use Rattle.std.proofs.lemmas.Bool.Decides.{Decides-eqb}
use Rattle.std.specs.Ordering.{nat_cmp}
use Rattle.std.specs.Cmp.{nat_cmp_total, unsigned_tied}
use Rattle.std.specs.FinMap.{from_entries, get-from_entries}
use Rattle.std.specs.FinMap as map
use Rattle.std.specs.Map.{lookup}
use Rattle.escrow.specs.declared.escrow.waiter.Waiter.{Waiter}

same_find : {X : Type 0} (n : ℕ) (es : List (ℕ × X)) → map.find nat_cmp n es ≡ lookup (nat_eq n) es
same_find n [] = refl
same_find n (e ∷ es) = rw (same_find n es, unsigned_tied n e.0) refl

pub get-entries : {X : Type 0} (n : ℕ) (es : List (ℕ × X)) → map.get (from_entries {R = nat_cmp} es) n ≡ lookup (nat_eq n) es
get-entries n es = get-from_entries nat_cmp_total es n ∙ same_find n es

-- equal values are values of equals
pub some_of : {X : Type 0} (x y : X) → Some x ≡ Some y → x ≡ y
some_of x y e = cc

-- a test of equality, turned
pub eq-turned : (k n : ℕ) → (k == n) ≡ (n == k)
eq-turned k n = elim (cases_Bool (k == n)) [
  | inl t ↦ t ∙ sym ((Decides-eqb n k).1 (sym ((Decides-eqb k n).0 t)))
  | inr f ↦ elim (cases_Bool (n == k)) [
    | inl t ↦ absurd (no f ((Decides-eqb k n).1 (sym ((Decides-eqb n k).0 t))))
    | inr g ↦ f ∙ sym g
  ]
]
  where
    no : {b : Bool} → b ≡ false → b ≡ true → ⊥
    no f t = cc (f, t)

-- what is seen of a map in which one number changed
pub held-changed : (n : ℕ) (w : Option Waiter) (es fs : List (ℕ × Waiter)) → ((q : ℕ) → lookup (nat_eq q) fs ≡ cond (nat_eq n q) w (lookup (nat_eq q) es))
    → (q : ℕ) → map.get (from_entries {R = nat_cmp} fs) q ≡ cond (q == n) w (map.get (from_entries {R = nat_cmp} es) q)
held-changed n w es fs updates q =
    get-entries q fs ∙ updates q ∙ ap (λ b. cond b w (lookup (nat_eq q) es)) (eq-turned n q) ∙ ap (cond (q == n) w) (sym (get-entries q es))
