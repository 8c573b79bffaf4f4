-- What a place was asked, and more behind it.
use Rattle.std.proofs.Common.{◌≡◌, ℕ, zero, suc, List, [], ◌∷◌, ◌++◌, refl, sym, ◌∙◌, ap, subst, append_assoc, Option, None, Some}
use Rattle.std.specs.Prelude.{replicate}
use Rattle.std.proofs.lemmas.List.{append-nil}
use Rattle.std.proofs.lemmas.Option.{none-some}
use Rattle.lists.specs.KeriSpecs.Shown.{after}
use Rattle.edges.specs.Acts.{Grows}
use Rattle.edges.specs.declared.link_act.LinkAct.{LinkAct}
use Rattle.edges.specs.declared.link_act.LinkAct.TheVariants.{Asked}

-- nothing came behind
pub grows-none : (shown : Option (List LinkAct)) → Grows shown shown []
grows-none None = tt
grows-none (Some all) = ap Some (sym (append-nil all))

-- and one thing behind another
pub grows-more : (first middle last : Option (List LinkAct)) (xs ys : List LinkAct) → Grows first middle xs → Grows middle last ys → Grows first last (xs ++ ys)
grows-more first middle None xs ys a b = tt
grows-more first None (Some all) xs ys a b = absurd (none-some all (sym b))
grows-more None (Some mid) (Some all) xs ys a b = absurd (none-some mid (sym a))
grows-more (Some old) (Some mid) (Some all) xs ys a b = b ∙ ap (λ (shown : Option (List LinkAct)). after shown ys) a ∙ ap Some (append_assoc old xs ys)

once_more : (n : ℕ) → replicate n Asked ++ Asked ∷ [] ≡ replicate (suc n) Asked
once_more zero = refl
once_more (suc n) = ap (λ (rest : List LinkAct). Asked ∷ rest) (once_more n)

-- it was asked n times, and once more
pub asks-again : (first middle last : Option (List LinkAct)) (n : ℕ) → Grows first middle (replicate n Asked) → Grows middle last (Asked ∷ []) → (m : ℕ) × Grows first last (replicate m Asked)
asks-again first middle last n a b =
    (suc n, subst (λ (acts : List LinkAct). Grows first last acts) (once_more n) (grows-more first middle last (replicate n Asked) (Asked ∷ []) a b))
