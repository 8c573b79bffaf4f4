-- A file that is written from behind its first byte.
use Rattle.std.proofs.Common.{◌≡◌, ℕ, ◌+◌, ◌≤◌, min, List, [], ◌∷◌, ◌++◌, length, take, drop, get_or, Option, Some, None, IfSome, Result, OnOk, IsErr, Ok, Err, option_map, refl, sym, ◌∙◌, ap, arith, append-nil, append_assoc, take_all, take-take}
use Rattle.std.proofs.lemmas.List.{drop_all}
use Rattle.shelf_log.specs.KeriDisk.Images.{DiskShown, overwritten, Torn}
use Rattle.shelf_log.specs.KeriDisk.Calls.{Changes}
use Rattle.shelf_log.specs.ShelfLog.Blank.{IsBlank, AllBlank, Extends}
use Rattle.shelf_log.proofs.ShelfLogLemmas.Changes.{none_of_err}
use Rattle.shelf_log.proofs.KeriDiskLemmas.Moments.{KnowsNow, one_call, and_then}

blank_same : (d c : List ℕ) → take 1 c ≡ take 1 d → IsBlank d → IsBlank c
blank_same [] c same blank = absurd blank
blank_same (x ∷ d) [] same blank = absurd (omega (arith, ap length same))
blank_same (x ∷ d) (y ∷ c) same blank = ap (λ (l : List ℕ). get_or l 0 0) same ∙ blank

front_1 : (m : ℕ) (c : List ℕ) → 1 ≤ m → take 1 (take m c) ≡ take 1 c
front_1 m c le = take-take 1 m c le

blank_long : (d : List ℕ) → IsBlank d → 1 ≤ length d
blank_long [] blank = absurd blank
blank_long (x ∷ d) blank = omega arith

-- a write behind the first byte leaves it
pub torn_blank : (end n : ℕ) (d c : List ℕ) → 1 ≤ end → IsBlank d → Torn end n d c → IsBlank c
torn_blank end n d c le blank torn =
    blank_same d c (sym (front_1 (min end (length d)) c (omega (arith, le, blank_long d blank))) ∙ ap (take 1) torn.before ∙ front_1 end d le) blank

written_end : (end : ℕ) (bytes file : List ℕ) → length file ≡ end → overwritten file end bytes ≡ file ++ bytes
written_end end bytes file is =
    ap (λ (l : List ℕ). l ++ bytes ++ drop (end + length bytes) file) (take_all end file (omega (arith, is)))
    ∙ ap (λ (l : List ℕ). file ++ bytes ++ l) (drop_all (end + length bytes) file (omega (arith, is)))
    ∙ append-nil (file ++ bytes)

mapped_end : (end : ℕ) (bytes : List ℕ) (o : Option (List ℕ)) → IfSome o (λ file. length file ≡ end) → option_map (λ file. overwritten file end bytes) o ≡ option_map (λ file. file ++ bytes) o
mapped_end end bytes None is = refl
mapped_end end bytes (Some file) is = ap Some (written_end end bytes file is)

on_ok : {T E : Type 0} (P Q : Type 0) (result : Result T E) → (P → Q) → OnOk result P → OnOk result Q
on_ok P Q (Ok x) gives holds = gives holds
on_ok P Q (Err e) gives holds = tt

-- a write at the end
pub extends : {E : Type 0} (end : ℕ) (bytes : List ℕ) (old new : DiskShown) (result : Result (Unit {0}) E) → KnowsNow old → 1 ≤ end → IfSome old.file (λ file. length file ≡ end)
    → Changes (λ file. overwritten file end bytes) (Torn end (length bytes)) old new result → Extends bytes old new result
extends end bytes old new result knows le is changes = record {
  file = on_ok _ _ result (λ file. file ∙ mapped_end end bytes old.file is) changes.ok;
  blank = blank;
  moments = λ all. one_call old new IsBlank knows changes.time all (blank all);
}
  where
    blank : AllBlank old → AllBlank new
    blank all c now = let part = changes.images c now in torn_blank end (length bytes) part.0 c le (all part.0 part.1) part.2

-- bytes were written behind the others
abbrev pub ExtendsSoFar : List ℕ → DiskShown → DiskShown → Type 0
ExtendsSoFar bytes old new = Extends {T = Unit {0}} {E = Unit {0}} bytes old new (Ok tt)

-- bytes behind bytes
mapped_both : (xs ys : List ℕ) (o : Option (List ℕ)) → option_map (λ file. file ++ ys) (option_map (λ file. file ++ xs) o) ≡ option_map (λ file. file ++ (xs ++ ys)) o
mapped_both xs ys None = refl
mapped_both xs ys (Some file) = ap Some (append_assoc file xs ys)

pub extends_both : {T E : Type 0} (xs ys : List ℕ) (old mid new : DiskShown) (result : Result T E) → ExtendsSoFar xs old mid → Extends ys mid new result → Extends (xs ++ ys) old new result
extends_both xs ys old mid new result a b = record {
  file = on_ok _ _ result (λ file. file ∙ ap (λ (o : Option (List ℕ)). option_map (λ file. file ++ ys) o) a.file ∙ mapped_both xs ys old.file) b.file;
  blank = λ all. b.blank (a.blank all);
  moments = λ all. and_then old mid new IsBlank (a.moments all) (b.moments (a.blank all));
}

-- a call that failed
pub extends_failed : {T U E F : Type 0} (xs ys zs : List ℕ) (old mid new : DiskShown) (first : Result T E) (result : Result U F) → ExtendsSoFar xs old mid → Extends ys mid new first → IsErr result → Extends zs old new result
extends_failed xs ys zs old mid new first result a b failed = record {
  file = none_of_err _ result failed;
  blank = λ all. b.blank (a.blank all);
  moments = λ all. and_then old mid new IsBlank (a.moments all) (b.moments (a.blank all));
}
