-- What stands at a place of a list, and what the elements up to a place give.
use Rattle.std.proofs.Common.{◌≡◌, ℕ, ◌+◌, ◌<◌, List, ◌++◌, length, take, get_or, Bor, Option, Some, None, refl, sym, ◌∙◌, ap}
use Rattle.std.specs.Prelude.{flat_map, slice_get}
use Rattle.std.specs.Option.{option_copied}
use Rattle.std.specs.Slice.{IsItemAt}
use Rattle.std.proofs.lemmas.Bool.{ltb-false, ltb-true}
use Rattle.std.proofs.lemmas.List.{take_more}
use Rattle.std.proofs.lemmas.Option.{get_or_from_slice_get, slice_get_past, slice_get_read}
use Rattle.journal.proofs.JournalLemmas.Locality.{flat_map-push}

-- what a slice gives at a number is what stands there
pub got : {X : Type 0} (xs : List X) (i : ℕ) (r : Option (Bor X)) → IsItemAt xs i r → option_copied r ≡ slice_get xs i
got xs i None h = sym (slice_get_past xs i (ltb-false i (length xs) (sym h.0)))
got xs i (Some x) h = sym (slice_get_read xs (length xs) i x.now refl (ltb-true i (length xs) (sym h.0)) h.1)

-- the element that is read at a place stands there
pub one_there : {X : Type 0} (xs : List X) (i : ℕ) (x y : X) → x ≡ get_or xs i x → slice_get xs i ≡ Some y → x ≡ y
one_there xs i x y is at = is ∙ get_or_from_slice_get xs i y x at

-- what one element more of a list gives
pub gathered_next : {X Y : Type 0} (f : X → List Y) (xs : List X) (i : ℕ) (d : X) → i < length xs → flat_map f (take (i + 1) xs) ≡ flat_map f (take i xs) ++ f (get_or xs i d)
gathered_next f xs i d low = ap (flat_map f) (take_more xs i d low) ∙ flat_map-push f (take i xs) (get_or xs i d)
