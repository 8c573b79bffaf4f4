-- A file stands for one list at most, and one that shows to be no shelf for none.
use Rattle.std.proofs.Common.{◌≡◌, ◌≢◌, ◌⊎◌, inl, inr, ℕ, suc, get_or, ◌<◌, ◌^◌, List, [], ◌∷◌, ◌++◌, length, take, drop, All, refl, sym, ◌∙◌, ap, subst, arith, append_assoc, length-append, take_at, drop_at}
use Rattle.std.specs.Int.{w32, to_be_bytes, from_be_bytes}
use Rattle.std.proofs.lemmas.Nat.{from_be_bytes-to_be_bytes_4}
use Rattle.shelf_log.specs.ShelfLog.Format.{mark, IsInRange, IsSized, IsNoShelf, record_bytes, records, EndsIn, IsOutOfRange, FailsAt}
use Rattle.shelf_log.specs.declared.shelf_log.version.Version.{Version}
use Rattle.shelf_log.specs.declared.shelf_log.version.Version.TheVariants.{One, Two}
use Rattle.shelf_log.proofs.ShelfLogLemmas.Files.{parts_of}

-- a length is read as it is written
pub same_length : (n m : ℕ) (xs ys : List ℕ) → n < 2 ^ 32 → m < 2 ^ 32 → to_be_bytes w32 n ++ xs ≡ to_be_bytes w32 m ++ ys → (n ≡ m) × (xs ≡ ys)
same_length n m xs ys n_fits m_fits same = (
  sym (from_be_bytes-to_be_bytes_4 n n_fits) ∙ ap (λ (l : List ℕ). from_be_bytes w32 (take 4 l)) same ∙ from_be_bytes-to_be_bytes_4 m m_fits,
  ap (drop 4) same,
)

below : (version : Version) (n : ℕ) → IsInRange version n → n < 2 ^ 32
below One n range = omega (arith, range.1)
below Two n range = omega (arith, range.1)

same_tail : {x y : ℕ} {xs ys : List ℕ} → x ∷ xs ≡ y ∷ ys → (x ≡ y) × (xs ≡ ys)
same_tail {x} {y} {xs} {ys} same = (ap (λ (l : List ℕ). get_or l 0 0) same, ap (drop 1) same)

long : (version : Version) → length (mark version) ≡ 8
long One = refl
long Two = refl

-- what stands behind whole records is neither a closed gate nor the beginning of a whole record
module _ (version : Version) where
  -- no record begins here
  no_record : (bytes : List ℕ) (behind : ℕ) (payload more : List ℕ) → IsSized version payload → EndsIn version bytes behind ⊎ IsOutOfRange version bytes behind → bytes ≡ record_bytes payload ++ more → ⊥
  no_record bytes behind payload more sized (inl (inl none)) is = absurd (omega (arith, ap length (sym none.0 ∙ is)))
  no_record bytes behind payload more sized (inl (inr (inl part))) is =
      let same = same_tail (sym part.1 ∙ is) in
      absurd (omega (arith, part.2, ap length same.1, length-append (to_be_bytes w32 (length payload) ++ payload) more, length-append (to_be_bytes w32 (length payload)) payload))
  no_record bytes behind payload more sized (inl (inr (inr part))) is =
      let same = same_length part.0 (length payload) part.1 (payload ++ more) (below version part.0 part.3) (below version (length payload) sized)
      ((same_tail (sym part.2 ∙ is)).1 ∙ append_assoc (to_be_bytes w32 (length payload)) payload more) in
      absurd (omega (arith, part.4, same.0, ap length same.1, length-append payload more))
  no_record bytes behind payload more sized (inr out) is =
      let same = same_length out.0 (length payload) out.1 (payload ++ more) out.3 (below version (length payload) sized)
      ((same_tail (sym out.2 ∙ is)).1 ∙ append_assoc (to_be_bytes w32 (length payload)) payload more) in
      absurd (out.4 (subst (IsInRange version) (sym same.0) sized))

  no_gate : (bytes : List ℕ) (behind gate : ℕ) (rest : List ℕ) → gate ≢ 1 → EndsIn version bytes behind ⊎ IsOutOfRange version bytes behind → bytes ≡ gate ∷ rest → ⊥
  no_gate bytes behind gate rest closed (inl (inl none)) is = absurd (omega (arith, ap length (sym none.0 ∙ is)))
  no_gate bytes behind gate rest closed (inl (inr (inl part))) is = closed (sym (same_tail (sym part.1 ∙ is)).0)
  no_gate bytes behind gate rest closed (inl (inr (inr part))) is = closed (sym (same_tail (sym part.2 ∙ is)).0)
  no_gate bytes behind gate rest closed (inr out) is = closed (sym (same_tail (sym out.2 ∙ is)).0)

  -- the first record of two lists of records is the same
  same_record : (p q xs ys : List ℕ) → IsSized version p → IsSized version q → record_bytes p ++ xs ≡ record_bytes q ++ ys → (p ≡ q) × (xs ≡ ys)
  same_record p q xs ys p_sized q_sized same =
      let lengths = same_length (length p) (length q) (p ++ xs) (q ++ ys) (below version (length p) p_sized) (below version (length q) q_sized)
      (sym (append_assoc (to_be_bytes w32 (length p)) p xs) ∙ (same_tail same).1 ∙ append_assoc (to_be_bytes w32 (length q)) q ys) in (
        sym (take_at p xs (length p) refl) ∙ ap (take (length p)) lengths.1 ∙ take_at q ys (length p) (sym lengths.0),
        sym (drop_at p xs (length p) refl) ∙ ap (drop (length p)) lengths.1 ∙ drop_at q ys (length p) (sym lengths.0),
      )

  no_list : (read list : List (List ℕ)) (bytes : List ℕ) (behind gate : ℕ) (rest : List ℕ) → gate ≢ 1 → All (IsSized version) read → All (IsSized version) list
      → EndsIn version bytes behind ⊎ IsOutOfRange version bytes behind → records read ++ bytes ≡ records list ++ gate ∷ rest → ⊥
  no_list [] [] bytes behind gate rest closed read_sized sized ends same = no_gate bytes behind gate rest closed ends same
  no_list [] (q ∷ list) bytes behind gate rest closed read_sized sized ends same =
      no_record bytes behind q (records list ++ gate ∷ rest) (sized 0 q (omega arith)) ends (same ∙ append_assoc (record_bytes q) (records list) (gate ∷ rest))
  no_list (p ∷ read) [] bytes behind gate rest closed read_sized sized ends same = closed (sym (same_tail same).0)
  no_list (p ∷ read) (q ∷ list) bytes behind gate rest closed read_sized sized ends same =
      let tails = same_record p q (records read ++ bytes) (records list ++ gate ∷ rest) (read_sized 0 p (omega arith)) (sized 0 q (omega arith))
      (sym (append_assoc (record_bytes p) (records read) bytes) ∙ same ∙ append_assoc (record_bytes q) (records list) (gate ∷ rest)) in
      no_list read list bytes behind gate rest closed (λ k d lt. read_sized (suc k) d (omega arith)) (λ k d lt. sized (suc k) d (omega arith)) ends tails.1

  length-mark : length (mark version) ≡ 8
  length-mark = long version

  behind_mark : (xs ys : List ℕ) → mark version ++ xs ≡ mark version ++ ys → xs ≡ ys
  behind_mark xs ys same = sym (drop_at (mark version) xs 8 length-mark) ∙ ap (drop 8) same ∙ drop_at (mark version) ys 8 length-mark

  -- a file that shows to be no shelf stands for no list
  pub fails_no_shelf : (file : List ℕ) (offset : ℕ) → FailsAt version file offset → IsNoShelf version file
  fails_no_shelf file offset (inl other) list holds =
      let p = parts_of version file list holds in
      other.0 (ap (take 8) (p.is ∙ append_assoc (mark version) (records list) (p.gate ∷ p.rest)) ∙ take_at (mark version) (records list ++ p.gate ∷ p.rest) 8 length-mark)
  fails_no_shelf file offset (inr fails) list holds =
      let p = parts_of version file list holds in
      no_list fails.0 list fails.1 fails.2 p.gate p.rest p.closed fails.4 holds.2 fails.5
      (behind_mark _ _ (sym (append_assoc (mark version) (records fails.0) fails.1) ∙ sym fails.3 ∙ p.is ∙ append_assoc (mark version) (records list) (p.gate ∷ p.rest)))
