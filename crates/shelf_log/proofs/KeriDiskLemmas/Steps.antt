-- What a disk in memory shows after calls more.
use Rattle.std.proofs.Common.{◌≡◌, ℕ, ◌+◌, ◌≤◌, List, [], ◌∷◌, length, take, refl, sym, ◌∙◌, ap, subst, arith, inl, inr, ⊎_elim, Some, Ok, Err}
use Rattle.std.proofs.lemmas.Bool.{cases_lt}
use Rattle.std.proofs.lemmas.List.{append-nil, take_all, take-append-le, length_push}
use Rattle.shelf_log.specs.KeriDisk.Images.{Torn}
use Rattle.shelf_log.specs.KeriDisk.Calls.{Elapses, Keeps, Syncs, Changes}
use Rattle.shelf_log.specs.KeriDisk.Replay.{file_after, file_of, IsLeftBy, IsLeftByAll}
use Rattle.shelf_log.specs.KeriDisk.Memory.{images_at, mem_shown, Did}
use Rattle.shelf_log.specs.KeriDisk.Laws.{Torn-overwritten, reads_an_image, counts_now}
use Rattle.shelf_log.specs.declared.keri_disk.disk_call.DiskCall.{DiskCall}
use Rattle.shelf_log.specs.declared.keri_disk.disk_call.DiskCall.TheVariants.{Kept, Synced, Wrote}
use Rattle.shelf_log.specs.declared.keri_disk.mem_disk.MemDisk.{MemDisk}
use Rattle.shelf_log.proofs.KeriDiskLemmas.Replays.{file_of-push, IsLeftByAll-pop, Torn-more}

-- a count of a fault changes no more
pub Did-then : (more : List DiskCall) (old mid new : MemDisk) → Did more old mid → Did [] mid new → Did more old new
Did-then more old mid new did none = record { first = none.first ∙ did.first; calls = none.calls ∙ append-nil mid.calls ∙ did.calls }

module _ (old new : MemDisk) (call : DiskCall) (did : Did (call ∷ []) old new) where
  file_did : new.file.items ≡ file_after call old.file.items
  file_did = new.replayed ∙ (λ i. file_of (did.first i) (did.calls i)) ∙ file_of-push old.first old.calls call ∙ ap (file_after call) (sym old.replayed)

  -- what was left at a moment of before is what is left there now
  same : (n : ℕ) (c : List ℕ) → n ≤ length old.calls → images_at new n c ≡ images_at old n c
  same n c le = λ i. IsLeftByAll ((ap (λ (l : List DiskCall). take n l) did.calls ∙ take-append-le n old.calls (call ∷ []) le) i) (did.first i) (did.first i) c

  -- each image is left by the call, of one of before
  images_did : (c : List ℕ) → (mem_shown new).images c → (d : List ℕ) × (mem_shown old).images d × IsLeftBy call old.file.items d c
  images_did c now =
      let calls = take_all (length new.calls) new.calls (omega arith) ∙ did.calls in
      let left = subst (λ (X : Type 0). X) (λ i. IsLeftByAll (calls i) (did.first i) (did.first i) c) now in
      let parts = IsLeftByAll-pop old.calls call old.first old.first c left in (
        parts.0,
        subst (λ (l : List DiskCall). IsLeftByAll l old.first old.first parts.0) (sym (take_all (length old.calls) old.calls (omega arith))) parts.1,
        subst (λ (f : List ℕ). IsLeftBy call f parts.0 c) (sym old.replayed) parts.2,
      )

  elapses : Elapses (mem_shown old) (mem_shown new)
  elapses =
      let counts : length new.calls ≡ length old.calls + 1 = ap length did.calls ∙ length_push old.calls call in
      record {
        later = omega (arith, counts);
        nothing_else = λ t c le left. elim (cases_lt (length old.calls) left.0) [
          | inl after ↦ inr (subst (λ (n : ℕ). images_at new n c) (omega (arith, counts, left.2)) left.3)
          | inr before ↦ inl (left.0, left.1, before, subst (λ (X : Type 0). X) (same left.0 c before) left.3)
        ];
        keeps = λ t c le left. (left.0, left.1, omega (arith, counts, left.2), subst (λ (X : Type 0). X) (sym (same left.0 c left.2)) left.3);
      }

  -- the whole of a call
  pub changes : {E : Type 0} → Changes {E = E} (file_after call) (IsLeftBy call old.file.items) (mem_shown old) (mem_shown new) (Ok tt)
  changes = record { ok = ap Some file_did; err = tt; images = images_did; time = elapses }

module _ (old new : MemDisk) where
  -- a call after which no image is new keeps all
  no_new : (call : DiskCall) → Did (call ∷ []) old new → new.file.items ≡ old.file.items → ((c : List ℕ) → (mem_shown new).images c → (mem_shown old).images c) → Keeps (mem_shown old) (mem_shown new)
  no_new call did file images =
      let time = elapses old new call did in
      record {
        file = ap Some file;
        images = images;
        later = time.later;
        nothing_new = λ t c le left. ⊎_elim (λ was. was) (λ now. counts_now old t c le (images c now)) (time.nothing_else t c le left);
        keeps = time.keeps;
      }

  pub keeps_kept : Did (Kept ∷ []) old new → Keeps (mem_shown old) (mem_shown new)
  keeps_kept did =
      no_new Kept did (file_did old new Kept did) (λ c now. let left = images_did old new Kept did c now in subst (mem_shown old).images (sym left.2) left.1)

  pub syncs : {E : Type 0} → Did (Synced ∷ []) old new → Syncs {E = E} (mem_shown old) (mem_shown new) (Ok tt)
  syncs did = record {
    keeps = no_new Synced did (file_did old new Synced did)
        (λ c now. let left = images_did old new Synced did c now in subst (mem_shown old).images (sym left.2) (reads_an_image old old.file.items refl));
    durable = λ c now. let left = images_did old new Synced did c now in ap Some (file_did old new Synced did ∙ sym left.2);
  }

  -- a write of fewer bytes, shown as one that failed
  pub changes_part : {E : Type 0} (e : E) (whole : List ℕ → List ℕ) (offset n : ℕ) (bytes : List ℕ) → length bytes ≤ n → Did (Wrote offset bytes ∷ []) old new → Changes whole (Torn offset n) (mem_shown old) (mem_shown new) (Err e)
  changes_part e whole offset n bytes fewer did =
      let call = Wrote offset bytes in
      let file = subst (Torn offset (length bytes) old.file.items) (sym (file_did old new call did)) (Torn-overwritten old.file.items offset bytes) in
      record {
        ok = tt;
        err = (new.file.items, refl, Torn-more offset (length bytes) n old.file.items new.file.items fewer file);
        images = λ c now. let left = images_did old new call did c now in (left.0, left.1, Torn-more offset (length bytes) n left.0 c fewer left.2);
        time = elapses old new call did;
      }
