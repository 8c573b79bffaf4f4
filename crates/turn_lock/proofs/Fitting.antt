-- Lists of one word, and of seats of which one changes.
use Rattle.std.proofs.Common.{◌≡◌, ℕ, subst, ◌≢◌, ◌⊎◌, List, [], ◌∷◌, set, sym, refl, ap, ◌∙◌, inl, inr, ⊎_elim, slice_index}
use mathlib.Core.Option.{some}
use mathlib.Core.Logic.{dite}
use native.Mathlib.Decide.{ℕ_discrete}
use lib.ListN.{get_elem?}
use Rattle.atomic_table.proofs.Lists.{at_set, set_else}
use Rattle.turn_lock.specs.declared.stage.Stage.{Stage}
use Rattle.turn_lock.specs.declared.stage.Stage.TheVariants.{Idle}
use Rattle.turn_lock.specs.declared.view.View.{View}
use Rattle.turn_lock.proofs.Sums.{same_at}

-- the word is set, or read
pub word_set : (words : List ℕ) (x y : ℕ) → words ≡ x ∷ [] → set words 0 y ≡ y ∷ []
word_set words x y e = ap (λ ws. set ws 0 y) e

pub word_again : (words : List ℕ) (x : ℕ) → words ≡ x ∷ [] → set words 0 (slice_index words 0) ≡ words
word_again words x e = subst (λ ws. set ws 0 (slice_index ws 0) ≡ ws) (sym e) refl

-- what holds of every seat, once the seat id has the view w
pub fits_set : {A : Type 0} (Q : ℕ → A → Type 0) (views : List A) (id : ℕ) (w : A) → ((j : ℕ) (u : A) → j ≢ id → get_elem? views j ≡ some u → Q j u) → Q id w → (j : ℕ) (u : A) → get_elem? (set views id w) j ≡ some u → Q j u
fits_set {A} Q views id w others mine j u e =
    ⊎_elim
    (λ (x : (j ≡ id) × (w ≡ u)). subst (λ (y : ℕ × A). Q y.0 y.1) (λ i. (sym x.0 i, x.1 i)) mine)
    (λ (x : (j ≢ id) × (get_elem? views j ≡ some u)). others j u x.0 x.1)
    (at_set views id j w u e)

-- where the seat id is idle, the seat that has the turn stays as it was
pub held_still : {E H : Type 0} (views : List (View E H)) (phase : Stage E) (holder id : ℕ) (v w : View E H) → get_elem? views id ≡ some v → v.stage ≡ Idle
    → (phase ≡ Idle) ⊎ ((u : View E H) × (get_elem? views holder ≡ some u) × (u.stage ≡ phase))
    → (phase ≡ Idle) ⊎ ((u : View E H) × (get_elem? (set views id w) holder ≡ some u) × (u.stage ≡ phase))
held_still {E} {H} views phase holder id v w at idle (inl p) = inl p
held_still {E} {H} views phase holder id v w at idle (inr t) = dite (ℕ_discrete holder id)
    (λ same. inl (sym t.2 ∙ ap (λ (u : View E H). u.stage) (same_at views id t.0 v (subst (λ k. get_elem? views k ≡ some t.0) same t.1) at) ∙ idle))
    (λ other. inr (t.0, set_else views id holder w other ∙ t.1, t.2))
