-- What one more piece makes of what was read.
use Rattle.std.proofs.Common.{◌≡◌, ℕ, ◌+◌, List, [], ◌∷◌, ◌++◌, length, Option, Some, None, ◌∙◌, ap, sym, subst, arith, append_assoc, length-append}
use Rattle.lists.specs.KeriSpecs.Causes.{Rose}
use Rattle.lists.specs.KeriSpecs.Shown.{before}
use Rattle.run_status.specs.declared.message_feed.text_close.TextClose.{TextClose}
use Rattle.run_status.specs.declared.message_feed.text_close.TextClose.TheVariants.{End, ReadFault, LimitReached, OutOfMemory}
use Rattle.run_status.specs.MessageFeed.Texts.{Gave, ReadsText, IsPiece, StopsSo, StopsFull}

-- pieces one after the other are one piece
pub gave_more : (first middle last : Option (List ℕ)) (bytes piece : List ℕ) → Gave first middle bytes → Gave middle last piece → Gave first last (bytes ++ piece)
gave_more first middle None bytes piece a b = a ∙ ap (before bytes) b
gave_more first middle (Some left) bytes piece a b = a ∙ (ap (before bytes) b ∙ ap (λ l. Some l) (sym (append_assoc bytes piece left)))

-- these bytes were read so far, there is room for so many more, and the source hasn't failed
pub record IsRead (most room : ℕ) (old new : Option (List ℕ)) (faults_old faults_new : ℕ) (bytes : List ℕ) : Type 0 where
  pub counted : length bytes + room ≡ most
  pub gave : Gave old new bytes
  pub same : faults_new ≡ faults_old

-- the piece has no bytes, so it ended the input
pub ended : (most room : ℕ) (old middle new : Option (List ℕ)) (faults_old faults_middle faults_new : ℕ) (bytes now : List ℕ) → IsRead most room old middle faults_old faults_middle bytes
    → (count : ℕ) → IsPiece middle new room bytes now count → faults_new ≡ faults_middle → count ≡ 0 → ReadsText most old new faults_old faults_new now End
ended most room old middle new faults_old faults_middle faults_new bytes now read count piece same none =
    let all = subst (λ b. Gave old new b) (sym piece.added) (gave_more old middle new bytes piece.piece read.gave piece.gave) in
    let c = read.counted in
    let p = piece.counted in
    let l = length-append bytes piece.piece in
    let n = ap length piece.added in
    record { few = omega (arith, c, p, l, n, none); closes = (all, piece.at_end none, same ∙ read.same) }

-- a piece came
pub more : (most room : ℕ) (old middle new : Option (List ℕ)) (faults_old faults_middle faults_new : ℕ) (bytes now : List ℕ) → IsRead most room old middle faults_old faults_middle bytes
    → (count left : ℕ) → IsPiece middle new room bytes now count → faults_new ≡ faults_middle → left + count ≡ room → IsRead most left old new faults_old faults_new now
more most room old middle new faults_old faults_middle faults_new bytes now read count left piece same less =
    let all = subst (λ b. Gave old new b) (sym piece.added) (gave_more old middle new bytes piece.piece read.gave piece.gave) in
    let c = read.counted in
    let p = piece.counted in
    let l = length-append bytes piece.piece in
    let n = ap length piece.added in
    record { counted = omega (arith, c, p, l, n, less); gave = all; same = same ∙ read.same }

-- no piece came
pub stopped : (most room : ℕ) (old middle new : Option (List ℕ)) (faults_old faults_middle faults_new : ℕ) (bytes : List ℕ) → IsRead most room old middle faults_old faults_middle bytes
    → (close : TextClose) → StopsSo middle new faults_middle faults_new close → ReadsText most old new faults_old faults_new bytes close
stopped most room old middle new faults_old faults_middle faults_new bytes read End none = elim none [ ]
stopped most room old middle new faults_old faults_middle faults_new bytes read LimitReached none = elim none [ ]
stopped most room old middle new faults_old faults_middle faults_new bytes read ReadFault (same, rose) =
    let c = read.counted in
    record { few = omega (arith, c); closes = (subst (λ s. Gave old s bytes) (sym same) read.gave, subst (λ f. Rose f faults_new) read.same rose) }
stopped most room old middle new faults_old faults_middle faults_new bytes read OutOfMemory ((piece, gave), same) =
    let c = read.counted in
    record { few = omega (arith, c); closes = ((piece, gave_more old middle new bytes piece read.gave gave), same ∙ read.same) }

-- there was no more room
pub full : (most : ℕ) (old middle new : Option (List ℕ)) (faults_old faults_middle faults_new : ℕ) (bytes : List ℕ) → (room : ℕ) → room ≡ 0 → IsRead most room old middle faults_old faults_middle bytes
    → (close : TextClose) → StopsFull middle new faults_middle faults_new close → ReadsText most old new faults_old faults_new bytes close
full most old middle new faults_old faults_middle faults_new bytes room none read End (same, at_end, faults) =
    let c = read.counted in
    record { few = omega (arith, c); closes = (subst (λ s. Gave old s bytes) (sym same) read.gave, at_end, faults ∙ read.same) }
full most old middle new faults_old faults_middle faults_new bytes room none read LimitReached ((next, gave), faults) =
    let c = read.counted in
    record { few = omega (arith, c); closes = (omega (arith, c, none), (next, gave_more old middle new bytes (next ∷ []) read.gave gave), faults ∙ read.same) }
full most old middle new faults_old faults_middle faults_new bytes room none read ReadFault (same, rose) =
    let c = read.counted in
    record { few = omega (arith, c); closes = (subst (λ s. Gave old s bytes) (sym same) read.gave, subst (λ f. Rose f faults_new) read.same rose) }
full most old middle new faults_old faults_middle faults_new bytes room none read OutOfMemory never = elim never [ ]
