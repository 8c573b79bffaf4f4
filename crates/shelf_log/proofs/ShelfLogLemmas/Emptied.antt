-- What a stop leaves of a new shelf.
use Rattle.std.proofs.Common.{◌≡◌, ◌≢◌, ◌⊎◌, inl, inr, ⊎_elim, ℕ, ◌≤◌, List, [], ◌∷◌, ◌++◌, length, take, drop, All, refl, sym, ◌∙◌, ap, subst, arith, length-drop, take-append-drop}
use Rattle.std.proofs.lemmas.Bool.{cases_Bool, cases_eq, false≢true}
use Rattle.std.proofs.lemmas.Slice.Eq.{bytes_eq-Decides}
use Rattle.std.specs.Str.{bytes_eq}
use Rattle.shelf_log.specs.KeriDisk.Images.{Torn}
use Rattle.shelf_log.specs.ShelfLog.Format.{mark, IsSized}
use Rattle.shelf_log.specs.ShelfLog.OnDisk.{IsUnfinished}
use Rattle.shelf_log.specs.declared.shelf_log.version.Version.TheVariants.{Two}
use Rattle.shelf_log.proofs.ShelfLogLemmas.Files.{holds_of}

-- two lists are the same or not
same_list : (xs ys : List ℕ) → (xs ≡ ys) ⊎ (xs ≢ ys)
same_list xs ys = elim (cases_Bool (bytes_eq xs ys)) [
  | inl same ↦ inl ((bytes_eq-Decides xs ys).0 same)
  | inr other ↦ inr (λ is. absurd (false≢true (sym other ∙ (bytes_eq-Decides xs ys).1 is)))
]

none_sized : All (IsSized Two) []
none_sized k d lt = absurd (omega (arith, lt))

-- a mark and at most one byte behind it
marked : (behind : List ℕ) → length behind ≤ 1 → IsUnfinished (mark Two ++ behind)
marked [] le = inr (inr (8, inr ([], [], 0, refl, none_sized, inl (inl (refl, refl)), refl)))
marked (gate ∷ []) le = elim (cases_eq gate 1) [
  | inl open_gate ↦ inr (inr (9, inr ([], gate ∷ [], 1, refl, none_sized, inl (inr (inl ([], ap (λ (g : ℕ). g ∷ []) open_gate, omega arith, refl))), refl)))
  | inr shut ↦ inr (inl (holds_of Two [] gate [] shut none_sized))
]
marked (gate ∷ more ∷ rest) le = absurd (omega (arith, le))

-- at most nine bytes are an empty shelf, or show to be none
pub short_file : (c : List ℕ) → length c ≤ 9 → IsUnfinished c
short_file c le = ⊎_elim
    (λ same. subst IsUnfinished (ap (λ (l : List ℕ). l ++ drop 8 c) (sym same) ∙ take-append-drop 8 c) (marked (drop 8 c) (omega (arith, le, length-drop 8 c))))
    (λ other. inr (inr (0, inl (other, refl))))
    (same_list (take 8 c) (mark Two))

-- what is left of a write of nine bytes to an empty file
pub torn_empty : (n : ℕ) (c : List ℕ) → n ≤ 9 → (d : List ℕ) → d ≡ [] → Torn 0 n d c → IsUnfinished c
torn_empty n c few d empty torn = short_file c (omega (arith, few, torn.no_longer, ap length empty))
