-- Links that were taken, and one more.
use Rattle.std.proofs.Common.{◌≡◌, ℕ, List, [], ◌∷◌, ◌++◌, map, refl, sym, ap, ◌∙◌, append_assoc, All, subst, Some, None, Ok, Option}
use Rattle.std.proofs.lemmas.List.{map-append}
use Rattle.std.proofs.lemmas.List.Elements.{All-append, All-cons, All-nil}
use Rattle.keri_outside.specs.Doors.{Comes}
use Rattle.run_status.specs.DoorLinks.Taken.{AreTaken}

-- the next link comes behind those that were taken
pub taken_more : {C S : Type 0} (E : Type 0) (source : C → S) (left : S → Option (List ℕ)) (old mid new : Option (List (List ℕ))) (sources : List S) (link : C)
    → AreTaken old mid (map left sources) → Comes {E = E} (λ c. left (source c)) mid new (Ok (Some link)) → AreTaken old new (map left (sources ++ source link ∷ []))
taken_more E source left None None None sources link taken comes = refl
taken_more E source left None None (Some new) sources link taken comes = let clash = comes.1 in cc
taken_more E source left None (Some mid) new sources link taken comes = cc
taken_more E source left (Some old) None new sources link taken comes = let clash = taken.2 in cc
taken_more E source left (Some old) (Some mid) None sources link taken comes = let clash = comes.1 in cc
taken_more E source left (Some old) (Some mid) (Some new) sources link taken comes =
    let same : mid ≡ taken.1 = cc in
    let front : mid ≡ comes.0 ∷ new = cc in (
      taken.0 ++ comes.0 ∷ [],
      new,
      refl,
      taken.3 ∙ (ap (λ rest. taken.0 ++ rest) (sym same ∙ front) ∙ sym (append_assoc taken.0 (comes.0 ∷ []) new)),
      map-append left sources (source link ∷ []) ∙ (ap (λ xs. xs ++ left (source link) ∷ []) taken.4
          ∙ (ap (λ y. map (λ bytes. Some bytes) taken.0 ++ y ∷ []) comes.2 ∙ sym (map-append (λ bytes. Some bytes) taken.0 (comes.0 ∷ [])))),
    )

-- what holds of all holds with one more of which it holds
pub all_more : {A : Type 0} (F : A → Type 0) (xs ys : List A) (x : A) → ys ≡ xs ++ x ∷ [] → All F xs → F x → All F ys
all_more F xs ys x is all here = subst (All F) (sym is) (All-append F xs (x ∷ []) all (All-cons F x [] here (All-nil F)))
