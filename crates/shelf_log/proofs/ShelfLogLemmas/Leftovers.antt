-- Files that a stopped migration may leave.
use Rattle.std.proofs.Common.{◌≡◌, ◌≢◌, inl, inr, ℕ, ◌≤◌, List, [], ◌∷◌, ◌++◌, length, take, drop, get_or, Option, IfSome, refl, sym, ◌∙◌, ap, subst, arith, length-take, length-append, take_all, take-take}
use Rattle.std.proofs.lemmas.Bool.{cases_lt}
use Rattle.shelf_log.specs.KeriDisk.Images.{DiskShown, IsDurable}
use Rattle.shelf_log.specs.ShelfLog.Format.{IsNoShelf, shelf_front}
use Rattle.shelf_log.specs.ShelfLog.Leftover.{rest_of_mark, GoesOnAsMark, IsLeftover}
use Rattle.shelf_log.specs.declared.shelf_log.version.Version.TheVariants.{Two}
use Rattle.shelf_log.proofs.ShelfLogLemmas.Files.{parts_of}

-- the rest of the mark has seven bytes, so more are none
all_of_mark : (n : ℕ) → 7 ≤ n → take n rest_of_mark ≡ rest_of_mark
all_of_mark n le = take_all n rest_of_mark (omega (arith, le))

-- a front of what goes on as the mark does goes on so
front_goes_on : (c d : List ℕ) → take (length c) d ≡ c → GoesOnAsMark d → GoesOnAsMark c
front_goes_on c d front on =
    let le : length c ≤ length d = omega (arith, ap length front, length-take (length c) d) in
    elim (cases_lt (length c) 7) [
      | inl few ↦
          take_all 7 c (omega (arith, few)) ∙ sym front ∙ sym (take-take (length c) 7 d (omega (arith, few))) ∙ ap (take (length c)) on ∙ take-take (length c) (length d) rest_of_mark le
      | inr many ↦
          ap (take 7) (sym front) ∙ take-take 7 (length c) d many ∙ on ∙ all_of_mark (length d) (omega (arith, le, many)) ∙ sym (all_of_mark (length c) many)
    ]

-- what is left of a leftover by a cut is one
pub front_leftover : (c d : List ℕ) → take (length c) d ≡ c → IsLeftover d → IsLeftover c
front_leftover [] d front is = tt
front_leftover (x ∷ c) [] front is = absurd (omega (arith, ap length front))
front_leftover (x ∷ c) (y ∷ d) front (inl none) =
    let rest : take (length c) d ≡ c = ap (drop 1) front in
    inl (sym rest ∙ ap (take (length c)) none ∙ take_all (length c) [] (omega arith))
front_leftover (x ∷ c) (y ∷ d) front (inr (inl zero)) = inr (inl (sym (ap (λ (l : List ℕ). get_or l 0 0) front) ∙ zero))
front_leftover (x ∷ c) (y ∷ d) front (inr (inr on)) =
    let first : y ≡ x = ap (λ (l : List ℕ). get_or l 0 0) front in
    let rest : take (length c) d ≡ c = ap (drop 1) front in
    inr (inr ((λ is. on.0 (first ∙ is)), front_goes_on c d rest on.1))

-- at most one byte is one
pub short_leftover : (c : List ℕ) → length c ≤ 1 → IsLeftover c
short_leftover [] le = tt
short_leftover (x ∷ []) le = inl refl
short_leftover (x ∷ y ∷ c) le = absurd (omega (arith, le))

-- and a shelf with another first byte than its mark's
pub torn_leftover : (x : ℕ) (rest : List ℕ) → x ≢ 75 → IsLeftover (x ∷ (rest_of_mark ++ rest))
torn_leftover x rest other = inr (inr (other, sym (all_of_mark (length (rest_of_mark ++ rest)) (omega (arith, length-append rest_of_mark rest)))))

-- none is a shelf
pub leftover_no_shelf : (c : List ℕ) → IsLeftover c → IsNoShelf Two c
leftover_no_shelf [] is list holds = let p = parts_of Two [] list holds in absurd (omega (arith, ap length p.is, length-append (shelf_front Two list) (p.gate ∷ p.rest)))
leftover_no_shelf (x ∷ c) is list holds =
    let p = parts_of Two (x ∷ c) list holds in
    let first : x ≡ 75 = ap (λ (l : List ℕ). get_or l 0 0) p.is in
    elim is [
      | inl none ↦ absurd (omega (arith, ap length p.is, ap length none, length-append (shelf_front Two list) (p.gate ∷ p.rest)))
      | inr (inl zero) ↦ absurd (omega (arith, first, zero))
      | inr (inr on) ↦ absurd (on.0 first)
    ]

-- so where the file is one, and each image is the file, no image is a shelf
pub images_no_shelf : (shown : DiskShown) → IsDurable shown → IfSome shown.file IsLeftover → (c : List ℕ) → shown.images c → IsNoShelf Two c
images_no_shelf shown durable left c now = leftover_no_shelf c (subst (λ (o : Option (List ℕ)). IfSome o IsLeftover) (durable c now) left)
