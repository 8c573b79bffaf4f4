-- One payload more on a disk.
use Rattle.std.proofs.Common.{◌≡◌, inl, ℕ, ◌+◌, List, [], ◌∷◌, ◌++◌, length, get_or, Option, Some, None, IfSome, Result, OnOk, Ok, Err, IsErr, is_err, false, All, option_map, refl, sym, ◌∙◌, ap, subst, arith}
use Rattle.std.specs.Int.{w32, to_be_bytes}
use Rattle.std.proofs.lemmas.Option.{same_Some, none-some}
use Rattle.std.proofs.lemmas.List.Elements.{All-push}
use Rattle.std.proofs.lemmas.Bool.{false≢true}
use Rattle.shelf_log.specs.KeriDisk.Images.{DiskShown, IsDurable, overwritten, Torn, LeavesOnly}
use Rattle.shelf_log.specs.ShelfLog.Durable.{ChangesDurably}
use Rattle.shelf_log.specs.ShelfLog.Format.{Holds, IsSized, shelf_front}
use Rattle.shelf_log.specs.ShelfLog.OnDisk.{HoldsDurably, HoldsEither, Stores}
use Rattle.shelf_log.specs.declared.shelf_log.version.Version.TheVariants.{Two}
use Rattle.shelf_log.proofs.ShelfLogLemmas.Crash.{staged, staged_holds, staged_file, torn_behind, torn_gate, opened, opened_file}
use Rattle.shelf_log.proofs.ShelfLogLemmas.Changes.{none_of_err}
use Rattle.shelf_log.proofs.ShelfLogLemmas.Files.{if_some, holds_of}
use Rattle.shelf_log.proofs.KeriDiskLemmas.Moments.{weaker, and_then}

-- what is there comes of what was there
pub mapped : {T : Type 0} (f : T → T) (o : Option T) (y : T) → option_map f o ≡ Some y → (x : T) × (o ≡ Some x) × (y ≡ f x)
mapped f None y is = absurd (none-some y is)
mapped f (Some x) y is = (x, refl, sym (same_Some (f x) y is))

-- an image of a disk that holds the list durably stands for it
pub image_holds : (shown : DiskShown) (list : List (List ℕ)) (c : List ℕ) → HoldsDurably shown list → shown.file ≡ Some c → Holds Two c list
image_holds shown list c on_disk is = subst (λ o. IfSome o (λ file. Holds Two file list)) is on_disk.1

module _ (list : List (List ℕ)) (payload : List ℕ) (fits : IsSized Two payload) (old : DiskShown) (on_disk : HoldsDurably old list) where
  abbrev offset : ℕ
  offset = length (shelf_front Two list)

  abbrev bytes : List ℕ
  bytes = to_be_bytes w32 (length payload) ++ payload ++ 0 ∷ []

  pub first_moments : {E : Type 0} (mid : DiskShown) (result : Result (Unit {0}) E) → ChangesDurably (λ file. overwritten file (offset + 1) bytes) (Torn (offset + 1) (length bytes)) old mid result
      → LeavesOnly old mid (HoldsEither list payload)
  first_moments mid result changes = weaker old mid _ (HoldsEither list payload)
      (λ c part. inl (torn_behind list part.0 (image_holds old list part.0 on_disk (on_disk.0 part.0 part.1)) (length bytes) c part.2)) changes.moments

  -- between the two steps the file is a staged one
  pub staged_between : (mid : DiskShown) (d : List ℕ) → mid.file ≡ option_map (λ file. overwritten file (offset + 1) bytes) old.file → mid.file ≡ Some d
      → (gate : ℕ) × (rest : List ℕ) × All (IsSized Two) list × (d ≡ staged list gate payload rest)
  staged_between mid d file_is is =
      let from = mapped (λ file. overwritten file (offset + 1) bytes) old.file d (sym file_is ∙ is) in
      let holds = image_holds old list from.0 on_disk from.1 in
      let s = staged_file list from.0 payload holds in
      (s.0, s.1, holds.2, from.2 ∙ s.3)

  module _ (mid new : DiskShown) (durable : (c : List ℕ) → mid.images c → mid.file ≡ Some c) (file_is : mid.file ≡ option_map (λ file. overwritten file (offset + 1) bytes) old.file) where
    second_moments : {E : Type 0} (result : Result (Unit {0}) E) → ChangesDurably (λ file. overwritten file offset (1 ∷ [])) (Torn offset 1) mid new result → LeavesOnly mid new (HoldsEither list payload)
    second_moments result changes = weaker mid new _ (HoldsEither list payload)
        (λ c part.
        let s = staged_between mid part.0 file_is (durable part.0 part.1) in
        let torn = subst (λ d. Torn offset 1 d c) s.3 part.2 in
        subst (HoldsEither list payload) (sym (torn_gate list payload s.0 s.1 c torn)) (staged_holds list payload s.2 fits (get_or c offset 0) s.1))
        changes.moments

    opened_holds : (f : List ℕ) → option_map (λ file. overwritten file offset (1 ∷ [])) mid.file ≡ Some f → Holds Two f (list ++ payload ∷ [])
    opened_holds f is =
        let from = mapped (λ file. overwritten file offset (1 ∷ [])) mid.file f is in
        let s = staged_between mid from.0 file_is from.1 in
        let whole : f ≡ shelf_front Two (list ++ payload ∷ []) ++ 0 ∷ s.1 =
        from.2 ∙ ap (λ (l : List ℕ). overwritten l offset (1 ∷ [])) s.3 ∙ opened_file list payload s.0 s.1 ∙ opened list payload s.2 fits s.1 in
        subst (λ l. Holds Two l (list ++ payload ∷ [])) (sym whole) (holds_of Two (list ++ payload ∷ []) 0 s.1 (omega arith) (All-push (IsSized Two) list payload s.2 fits))

    on_ok : {E : Type 0} (result : Result (Unit {0}) E) → ChangesDurably (λ file. overwritten file offset (1 ∷ [])) (Torn offset 1) mid new result → OnOk result (HoldsDurably new (list ++ payload ∷ []))
    on_ok (Err e) changes = tt
    on_ok (Ok u) changes = (changes.durable, if_some (λ f. Holds Two f (list ++ payload ∷ [])) new.file (λ f is. opened_holds f (sym changes.file ∙ is)))

    pub stored : {E : Type 0} (result : Result (Unit {0}) E) → LeavesOnly old mid (HoldsEither list payload)
        → ChangesDurably (λ file. overwritten file offset (1 ∷ [])) (Torn offset 1) mid new result → Stores list payload old new result
    stored result first changes = record {
      durable = on_ok result changes;
      moments = and_then old mid new (HoldsEither list payload) first (second_moments result changes);
    }

-- the two steps of an append at the offset where the closed gate stands
module _ (list : List (List ℕ)) (payload : List ℕ) (old : DiskShown) (on_disk : HoldsDurably old list) (fits : IsSized Two payload)
    (end : ℕ) (end_is : end ≡ length (shelf_front Two list)) (bytes : List ℕ) (bytes_are : bytes ≡ to_be_bytes w32 (length payload) ++ payload ++ 0 ∷ []) where
  at_gate : {E : Type 0} (mid : DiskShown) (result : Result (Unit {0}) E) → ChangesDurably (λ file. overwritten file (end + 1) bytes) (Torn (end + 1) (length bytes)) old mid result
      → ChangesDurably (λ file. overwritten file (length (shelf_front Two list) + 1) (to_be_bytes w32 (length payload) ++ payload ++ 0 ∷ []))
      (Torn (length (shelf_front Two list) + 1) (length (to_be_bytes w32 (length payload) ++ payload ++ 0 ∷ []))) old mid result
  at_gate mid result changes =
      subst (λ (p : List ℕ). ChangesDurably (λ file. overwritten file (length (shelf_front Two list) + 1) p) (Torn (length (shelf_front Two list) + 1) (length p)) old mid result) bytes_are
      (subst (λ (e : ℕ). ChangesDurably (λ file. overwritten file (e + 1) bytes) (Torn (e + 1) (length bytes)) old mid result) end_is changes)

  pub first_failed : {E F : Type 0} (mid : DiskShown) (first : Result (Unit {0}) E) (result : Result (Unit {0}) F) → IsErr result
      → ChangesDurably (λ file. overwritten file (end + 1) bytes) (Torn (end + 1) (length bytes)) old mid first → Stores list payload old mid result
  first_failed mid first result failed changes = record {
    durable = none_of_err _ result failed;
    moments = first_moments list payload fits old on_disk mid first (at_gate mid first changes);
  }

  pub both_done : {E F : Type 0} (mid new : DiskShown) (first : Result (Unit {0}) E) (result : Result (Unit {0}) F)
      → IsDurable mid → mid.file ≡ option_map (λ file. overwritten file (end + 1) bytes) old.file
      → ChangesDurably (λ file. overwritten file (end + 1) bytes) (Torn (end + 1) (length bytes)) old mid first
      → ChangesDurably (λ file. overwritten file end (1 ∷ [])) (Torn end 1) mid new result → Stores list payload old new result
  both_done mid new first result durable file_is changes opens =
      stored list payload fits old on_disk mid new durable
      (file_is ∙ ap (λ (e : ℕ). option_map (λ file. overwritten file (e + 1) bytes) old.file) end_is ∙ ap (λ (p : List ℕ). option_map (λ file. overwritten file (length (shelf_front Two list) + 1) p) old.file) bytes_are)
      result
      (first_moments list payload fits old on_disk mid first (at_gate mid first changes))
      (subst (λ (e : ℕ). ChangesDurably (λ file. overwritten file e (1 ∷ [])) (Torn e 1) mid new result) end_is opens)

pub ok_of : {T E : Type 0} (P : Type 0) (result : Result T E) → is_err result ≡ false → OnOk result P → P
ok_of P (Ok x) done holds = holds
ok_of P (Err e) done holds = absurd (false≢true (sym done))
