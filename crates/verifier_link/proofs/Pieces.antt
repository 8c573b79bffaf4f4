-- What one more piece makes of a field and of what a source gave.
use Rattle.std.proofs.Common.{◌≡◌, ℕ, ◌+◌, ◌-◌, ◌≤◌, List, ◌++◌, length, take, Option, None, Some, refl, sym, ap, ◌∙◌, arith, append_assoc, length-append}
use Rattle.std.proofs.Math.Seq.{take-append-add}
use Rattle.std.proofs.lemmas.List.{take-take, length-take, length-take-le}
use Rattle.std.proofs.lemmas.Slice.{take-put_mid}
use borrow.Rule.Slice.PartMut.{put_mid}
use Rattle.lists.specs.KeriSpecs.Shown.{before}
use Rattle.verifier_link.specs.Sides.{Gave}
use Rattle.keri_outside.specs.Shown.{SourceShown}

pub before_more : (first middle last : Option (List ℕ)) (bytes piece : List ℕ) → first ≡ before bytes middle → middle ≡ before piece last → first ≡ before (bytes ++ piece) last
before_more first middle None bytes piece a b = a ∙ ap (before bytes) b
before_more first middle (Some left) bytes piece a b = a ∙ (ap (before bytes) b ∙ ap (λ l. Some l) (sym (append_assoc bytes piece left)))

-- pieces one after the other are one piece
pub gave_more : (first middle last : SourceShown) (bytes piece : List ℕ) → Gave first middle bytes → Gave middle last piece → Gave first last (bytes ++ piece)
gave_more first middle last bytes piece a b = record {
  left = before_more first.left middle.left last.left bytes piece a.left b.left;
  faults = b.faults ∙ a.faults;
}

module _ (a m : ℕ) (xs ys : List ℕ) (few : a ≤ length xs) (size : length ys ≡ length xs - a) (fewer : m ≤ length ys) where
  -- the bytes of a field so far, with a piece more at its front
  pub field_more : take (a + m) (put_mid a (length xs - a) xs ys) ≡ take a xs ++ take m ys
  field_more =
      sym (take-take (a + m) (a + length ys) (put_mid a (length xs - a) xs ys) (omega arith))
      ∙ ap (take (a + m)) (take-put_mid a (length xs - a) xs ys (a + length ys) refl few)
      ∙ ap (λ k. take (k + m) (take a xs ++ ys)) (sym (length-take-le a xs few))
      ∙ take-append-add (take a xs) ys m

  pub field_holds : a + m ≤ length (put_mid a (length xs - a) xs ys)
  field_holds =
      let whole = ap length (take-put_mid a (length xs - a) xs ys (a + length ys) refl few) in
      let all = length-append (take a xs) ys in
      let front = length-take-le a xs few in
      let most = length-take (a + length ys) (put_mid a (length xs - a) xs ys) in
      omega (arith, whole, all, front, most, fewer)
