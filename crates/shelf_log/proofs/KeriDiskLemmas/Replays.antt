-- Calls in a row, and what they leave.
use Rattle.std.proofs.Common.{◌≡◌, ℕ, ◌+◌, ◌-◌, ◌≤◌, List, [], ◌∷◌, ◌++◌, drop, refl, sym, ◌∙◌, ap, subst, arith, Result, Ok, Err, OnOk, OnErr}
use Rattle.std.proofs.lemmas.List.{drop-drop}
use Rattle.shelf_log.specs.KeriDisk.Images.{Torn}
use Rattle.shelf_log.specs.KeriDisk.Replay.{file_after, file_of, IsLeftBy, IsLeftByAll}
use Rattle.shelf_log.specs.KeriDisk.Shapes.{image_after, image_of}
use Rattle.shelf_log.specs.declared.keri_disk.shape.Shape.{Shape}
use Rattle.shelf_log.specs.declared.keri_disk.disk_call.DiskCall.{DiskCall}

pub file_of-push : (file : List ℕ) (calls : List DiskCall) (call : DiskCall) → file_of file (calls ++ call ∷ []) ≡ file_after call (file_of file calls)
file_of-push file [] call = refl
file_of-push file (first ∷ calls) call = file_of-push (file_after first file) calls call

pub image_of-push : (shape : Shape) (calls : List DiskCall) (call : DiskCall) (file image : List ℕ) → image_of shape file image (calls ++ call ∷ []) ≡ image_after shape call (file_of file calls) (image_of shape file image calls)
image_of-push shape [] call file image = refl
image_of-push shape (first ∷ calls) call file image = image_of-push shape calls call (file_after first file) (image_after shape first file image)

-- so what a disk holds stays what its calls made
pub replayed : (first : List ℕ) (calls later : List DiskCall) (call : DiskCall) (file : List ℕ) → file ≡ file_of first calls → later ≡ calls ++ call ∷ [] → file_after call file ≡ file_of first later
replayed first calls later call file is more = ap (file_after call) is ∙ sym (file_of-push first calls call) ∙ ap (file_of first) (sym more)

-- also where the call changed nothing, and maybe found no memory
pub replayed_still : {T E : Type 0} (first : List ℕ) (calls later : List DiskCall) (call : DiskCall) (file : List ℕ) (result : Result T E) → file_after call file ≡ file → file ≡ file_of first calls → OnOk result (later ≡ calls ++ call ∷ []) → OnErr result (later ≡ calls) → file ≡ file_of first later
replayed_still first calls later call file (Ok done) same is ok err = sym same ∙ replayed first calls later call file is ok
replayed_still first calls later call file (Err e) same is ok err = is ∙ ap (file_of first) (sym err)

-- what is left by calls and one more is left by that, of what is left by the others
pub IsLeftByAll-push : (calls : List DiskCall) (call : DiskCall) (file old mid new : List ℕ) → IsLeftByAll calls file old mid → IsLeftBy call (file_of file calls) mid new → IsLeftByAll (calls ++ call ∷ []) file old new
IsLeftByAll-push [] call file old mid new is last = (new, subst (λ (x : List ℕ). IsLeftBy call file x new) is last, refl)
IsLeftByAll-push (first ∷ calls) call file old mid new left last = (left.0, left.1, IsLeftByAll-push calls call (file_after first file) left.0 mid new left.2 last)

pub IsLeftByAll-pop : (calls : List DiskCall) (call : DiskCall) (file old new : List ℕ) → IsLeftByAll (calls ++ call ∷ []) file old new → (mid : List ℕ) × IsLeftByAll calls file old mid × IsLeftBy call (file_of file calls) mid new
IsLeftByAll-pop [] call file old new left = (old, refl, subst (IsLeftBy call file old) (sym left.2) left.1)
IsLeftByAll-pop (first ∷ calls) call file old new left =
    let rest = IsLeftByAll-pop calls call (file_after first file) left.0 new left.2 in (rest.0, (left.0, left.1, rest.1), rest.2)

-- what is left of fewer bytes may be left of more
pub Torn-more : (offset n m : ℕ) (old new : List ℕ) → n ≤ m → Torn offset n old new → Torn offset m old new
Torn-more offset n m old new le torn =
    let end : offset + n + (m - n) ≡ offset + m = omega arith in
    record {
      before = torn.before;
      after = subst (λ (k : ℕ). drop k new ≡ drop k old) end (sym (drop-drop (m - n) (offset + n) new) ∙ ap (λ (l : List ℕ). drop (m - n) l) torn.after ∙ drop-drop (m - n) (offset + n) old);
      no_shorter = torn.no_shorter;
      no_longer = omega (arith, torn.no_longer);
    }
