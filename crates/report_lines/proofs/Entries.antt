-- Entries of a map: one that is written, and one that is new.
use Rattle.std.proofs.Common.{◌≡◌, Bool, List, [], ◌∷◌, map, Some, None, refl, sym, ◌∙◌, ap, inl, inr, get_or}
use Rattle.std.specs.Prelude.{All}
use Rattle.std.specs.BTreeMap as tree
use Rattle.std.specs.BTreeMap.{BTreeMap, insert_entry, is_at}
use Rattle.std.specs.Cmp.{IsTotalOrder}
use Rattle.std.specs.List.Sorted.{IsPermutation}
use Rattle.std.specs.Map.{lookup, set_value}
use Rattle.std.specs.Ordering.{is_eq, match_ordering}
use Rattle.std.specs.declared.cmp.Ordering.{Ordering}
use Rattle.std.specs.declared.cmp.Ordering.TheVariants.{Less, Equal, Greater}
use Rattle.std.proofs.lemmas.Bool.{cases_Bool}
use Rattle.std.proofs.lemmas.List.Sorted.{IsPermutation-refl, IsPermutation-trans, IsPermutation-cons, IsPermutation-middle}
use Rattle.std.proofs.lemmas.Map.Entries.{btree_map_get_place, lookup_head, lookup_tail}
use Rattle.std.proofs.lemmas.Option.{slice_get-get_or}

-- a new key comes among the others
module _ {K X : Type 0} (cmp : K → K → Ordering) (k : K) (v : X) where
  pub inserted : (es : List (K × X)) → lookup (is_at (cmp k)) es ≡ None → IsPermutation ((k, v) ∷ es) (insert_entry cmp es k v)
  inserted [] none = IsPermutation-refl ((k, v) ∷ [])
  inserted (e ∷ es) none = step (cmp k e.0) refl (inserted es)
    where
      step : (r : Ordering) → cmp k e.0 ≡ r → (lookup (is_at (cmp k)) es ≡ None → IsPermutation ((k, v) ∷ es) (insert_entry cmp es k v))
          → IsPermutation ((k, v) ∷ e ∷ es) (match_ordering r ((k, v) ∷ e ∷ es) ((e.0, v) ∷ es) (e ∷ insert_entry cmp es k v))
      step Less at more = IsPermutation-refl ((k, v) ∷ e ∷ es)
      step Equal at more = let one : Some e.1 ≡ None = sym (lookup_head (is_at (cmp k)) e es (ap is_eq at)) ∙ none in cc
      step Greater at more = IsPermutation-trans _ _ _ (IsPermutation-middle ((k, v) ∷ []) e es)
          (IsPermutation-cons e _ _ (more (sym (lookup_tail (is_at (cmp k)) e es (ap is_eq at)) ∙ none)))

-- what is read of the entries stays, where the value that is written has the same read as the one before
module _ {K X Y : Type 0} (read : X → Y) (test : K → Bool) (old new : X) (same : read new ≡ read old) where
  pub reads_kept : (es : List (K × X)) → lookup test es ≡ Some old
      → map {B = K × Y} (λ (e : K × X). (e.0, read e.1)) (set_value test es new) ≡ map {B = K × Y} (λ (e : K × X). (e.0, read e.1)) es
  reads_kept [] at = refl
  reads_kept (e ∷ es) at = elim (cases_Bool (test e.0)) [
    | inl k ↦ (let is : Some e.1 ≡ Some old = sym (lookup_head test e es k) ∙ at in
        let one : e.1 ≡ old = cc in
        let reads : read new ≡ read e.1 = same ∙ sym (ap read one) in
        rw k (ap (λ y. (e.0, y) ∷ map {B = K × Y} (λ (e : K × X). (e.0, read e.1)) es) reads))
    | inr k ↦ (let rest = reads_kept es (sym (lookup_tail test e es k) ∙ at) in
        rw k (ap (λ rs. (e.0, read e.1) ∷ rs) rest))
  ]

-- each entry is what its key is looked up to
module _ {K X : Type 0} {R : K → K → Ordering} (total : IsTotalOrder R) (m : BTreeMap K X) (ordered : tree.IsOrdered R m) where
  pub each_found : All (λ e. tree.get R m e.0 ≡ Some e.1) m.entries
  each_found k d h = btree_map_get_place total m k (get_or m.entries k d).0 (get_or m.entries k d).1 ordered (slice_get-get_or m.entries k d h)
