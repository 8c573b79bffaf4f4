-- The laws of a disk, of one in memory.
use Rattle.std.specs.Prelude.{◌≡◌, ◌≤◌, ◌+◌, ℕ, min, List, [], ◌∷◌, ◌++◌, length, take, drop, refl}
use Rattle.std.proofs.Common.{sym, ◌∙◌, ap, subst, inl, inr, arith, length-append, length-take, length-drop, append_assoc}
use Rattle.std.proofs.lemmas.Bool.{cases_lt}
use Rattle.std.proofs.lemmas.List.{take_all, take_at, take_min, drop_at, drop_all}
use Rattle.std.proofs.lemmas.Option.{same_Some}
use Rattle.std.specs.declared.option.Option.TheVariants.{Some}
use Rattle.shelf_log.specs.KeriDisk.Images.{overwritten, Torn, CutShort}
use Rattle.shelf_log.specs.KeriDisk.Replay.{file_after, file_of, IsLeftBy, IsLeftByAll}
use Rattle.shelf_log.specs.KeriDisk.Memory.{images_at, mem_shown}
use Rattle.shelf_log.specs.declared.keri_disk.disk_call.DiskCall.{DiskCall}
use Rattle.shelf_log.specs.declared.keri_disk.disk_call.DiskCall.TheVariants.{Kept, Synced, Wrote, CutTo}
use Rattle.shelf_log.specs.declared.keri_disk.mem_disk.MemDisk.{MemDisk}

-- past the range all is as before
drop_overwritten : (file : List ℕ) (offset : ℕ) (bytes : List ℕ) → drop (offset + length bytes) (overwritten file offset bytes) ≡ drop (offset + length bytes) file
drop_overwritten file offset bytes =
    let end = offset + length bytes in
    let front : List ℕ = take offset file ++ bytes in
    elim (cases_lt offset (length file)) [
      | inl within ↦ drop_at front (drop end file) end (simp (length-append, length-take) (omega arith))
      | inr past ↦
          drop_all end (front ++ drop end file) (simp (length-append, length-take, length-drop) (omega arith))
          ∙ sym (drop_all end file (omega arith))
    ]

-- the whole of a write is one of its parts
pub Torn-overwritten : (file : List ℕ) (offset : ℕ) (bytes : List ℕ) → Torn offset (length bytes) file (overwritten file offset bytes)
Torn-overwritten file offset bytes = record {
  before = ap (take (min offset (length file))) (append_assoc (take offset file) bytes (drop (offset + length bytes) file))
      ∙ take_at (take offset file) (bytes ++ drop (offset + length bytes) file) (min offset (length file)) (length-take offset file);
  after = drop_overwritten file offset bytes;
  no_shorter = simp (length-append, length-take, length-drop) (omega arith);
  no_longer = simp (length-append, length-take, length-drop) (omega arith);
}

-- and that of a cut
pub CutShort-take : (size : ℕ) (file : List ℕ) → CutShort size file (take size file)
CutShort-take size file = record {
  front = ap (λ (n : ℕ). take n file) (length-take size file) ∙ take_min size file;
  no_shorter = simp length-take (omega arith);
}

-- the file after a call is left by it, of the file before
file_after-IsLeft : (call : DiskCall) (file : List ℕ) → IsLeftBy call file file (file_after call file)
file_after-IsLeft Kept file = refl
file_after-IsLeft Synced file = refl
file_after-IsLeft (Wrote offset bytes) file = Torn-overwritten file offset bytes
file_after-IsLeft (CutTo size) file = CutShort-take size file

file_of-IsLeft : (calls : List DiskCall) (file : List ℕ) → IsLeftByAll calls file file (file_of file calls)
file_of-IsLeft [] file = refl
file_of-IsLeft (call ∷ calls) file = (file_after call file, file_after-IsLeft call file, file_of-IsLeft calls (file_after call file))

pub reads_an_image : (disk : MemDisk) (file : List ℕ) → (mem_shown disk).file ≡ Some file → (mem_shown disk).images file
reads_an_image disk file is =
    let calls : List DiskCall = take (length disk.calls) disk.calls in
    let reads : file_of disk.first calls ≡ file =
    ap (file_of disk.first) (take_all (length disk.calls) disk.calls (omega arith)) ∙ sym disk.replayed ∙ same_Some _ _ is in
    subst (images_at disk (length disk.calls)) reads (file_of-IsLeft calls disk.first)

pub counts_now : (disk : MemDisk) (t : ℕ) (c : List ℕ) → t ≤ (mem_shown disk).moment → (mem_shown disk).images c → (mem_shown disk).images_since t c
counts_now disk t c le now = (length disk.calls, le, omega arith, now)

pub only_now : (disk : MemDisk) (c : List ℕ) → (mem_shown disk).images_since (mem_shown disk).moment c → (mem_shown disk).images c
only_now disk c left =
    let last : left.0 ≡ length disk.calls = omega (arith, left.1, left.2) in
    subst (λ (n : ℕ). images_at disk n c) last left.3
