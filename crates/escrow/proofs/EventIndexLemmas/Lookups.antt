-- What is looked up at keys that an order doesn't tell apart.
use Rattle.std.proofs.Common.{◌≡◌, true, List, [], ◌∷◌, refl}
use Rattle.std.specs.declared.cmp.Ordering.{Ordering}
use Rattle.std.specs.BTreeMap.{is_at}
use Rattle.std.specs.Cmp.{IsTotalOrder}
use Rattle.std.specs.Map.{lookup}
use Rattle.std.proofs.lemmas.Cmp.{eq_by_cmp_equiv}

-- such keys are looked up alike
pub alike : {K X : Type 0} {R : K → K → Ordering} → IsTotalOrder R → (k q : K) → is_at (R k) q ≡ true → (es : List (K × X)) → lookup (is_at (R q)) es ≡ lookup (is_at (R k)) es
alike o k q h [] = refl
alike {R = R} o k q h (e ∷ es) =
    let here : is_at (R k) e.0 ≡ is_at (R q) e.0 = (eq_by_cmp_equiv o).congr k q e.0 h in
    let rest = alike o k q h es in
    rw (here, rest) refl
