-- Lists of which a relation holds place by place, with one more place.
use Rattle.std.proofs.Common.{◌≡◌, ◌+◌, ◌<◌, ℕ, List, [], ◌∷◌, ◌++◌, length, take, get_or, sym, subst}
use Rattle.std.specs.List.{AllZip}
use Rattle.std.proofs.lemmas.List.{take_more}

zipped_push : {A B : Type 0} (R : A → B → Type 0) (xs : List A) (ys : List B) (x : A) (y : B) → AllZip R xs ys → R x y → AllZip R (xs ++ x ∷ []) (ys ++ y ∷ [])
zipped_push R [] [] x y all one = (one, tt)
zipped_push R (a ∷ xs) (b ∷ ys) x y all one = (all.0, zipped_push R xs ys x y all.1 one)
zipped_push R [] (b ∷ ys) x y all one = elim all [ ]
zipped_push R (a ∷ xs) [] x y all one = elim all [ ]

pub zipped_more : {A B : Type 0} (R : A → B → Type 0) (xs : List A) (i : ℕ) (d : A) (ys new : List B) (y : B) → i < length xs → AllZip R (take i xs) ys → R (get_or xs i d) y → new ≡ ys ++ y ∷ []
    → AllZip R (take (i + 1) xs) new
zipped_more R xs i d ys new y low all one is =
    subst (λ zs. AllZip R zs new) (sym (take_more xs i d low)) (subst (AllZip R (take i xs ++ get_or xs i d ∷ [])) (sym is) (zipped_push R (take i xs) ys (get_or xs i d) y all one))
