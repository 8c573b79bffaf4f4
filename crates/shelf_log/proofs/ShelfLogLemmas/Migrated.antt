-- A list is brought over, step by step.
use Rattle.std.proofs.Common.{◌≡◌, ◌≢◌, ◌⊎◌, inl, inr, ℕ, ◌≤◌, List, [], ◌∷◌, ◌++◌, length, take, drop, get_or, Some, IfSome, Result, All, option_map, refl, sym, ◌∙◌, ap, subst, arith, append_assoc, length-append, take-append-drop}
use Rattle.std.proofs.lemmas.Bool.{cases_eq}
use Rattle.std.proofs.lemmas.List.{drop_more}
use Rattle.shelf_log.specs.KeriDisk.Images.{DiskShown, IsDurable, overwritten, Torn, CutShort, LeavesOnly}
use Rattle.shelf_log.specs.ShelfLog.Blank.{IsBlank, AllBlank, blank_file}
use Rattle.shelf_log.specs.ShelfLog.Durable.{ChangesDurably}
use Rattle.shelf_log.specs.ShelfLog.Format.{mark, Holds, IsSized, IsNoShelf, records, shelf_front}
use Rattle.shelf_log.specs.ShelfLog.Leftover.{rest_of_mark, IsLeftover}
use Rattle.shelf_log.specs.ShelfLog.OnDisk.{HoldsDurably}
use Rattle.shelf_log.specs.declared.shelf_log.version.Version.TheVariants.{One, Two}
use Rattle.shelf_log.proofs.ShelfLogLemmas.Files.{if_some, parts_of, holds_of}
use Rattle.shelf_log.proofs.ShelfLogLemmas.Leftovers.{front_leftover, short_leftover, torn_leftover}
use Rattle.shelf_log.proofs.KeriDiskLemmas.Moments.{weaker, and_then}
use Rattle.shelf_log.proofs.ShelfLogLemmas.Stored.{mapped}
use Rattle.shelf_log.proofs.ShelfLogLemmas.Windows.{of_some}

-- What isn't begun yet: so is each front of such a file, one of at most one byte, one whose first byte is 0, and one that has
-- another byte in place of its mark's first.
pub record IsUnbegun (N : List ℕ → Type 0) : Type 0 where
  pub front : (c d : List ℕ) → take (length c) d ≡ c → N d → N c
  pub short : (c : List ℕ) → length c ≤ 1 → N c
  pub blank : (rest : List ℕ) → N (0 ∷ rest)
  pub torn : (x : ℕ) (rest : List ℕ) → x ≢ 75 → N (x ∷ (rest_of_mark ++ rest))

-- a front of what is no shelf is none
front_no_shelf : (c d : List ℕ) → take (length c) d ≡ c → IsNoShelf Two d → IsNoShelf Two c
front_no_shelf c d front none list holds =
    let p = parts_of Two c list holds in
    let whole : d ≡ shelf_front Two list ++ p.gate ∷ (p.rest ++ drop (length c) d) =
    sym (take-append-drop (length c) d) ∙ ap (λ (l : List ℕ). l ++ drop (length c) d) (front ∙ p.is) ∙ append_assoc (shelf_front Two list) (p.gate ∷ p.rest) (drop (length c) d) in
    none list (subst (λ f. Holds Two f list) (sym whole) (holds_of Two list p.gate (p.rest ++ drop (length c) d) p.closed holds.2))

other_no_shelf : (x : ℕ) (rest : List ℕ) → x ≢ 75 → IsNoShelf Two (x ∷ rest)
other_no_shelf x rest other list holds = let p = parts_of Two (x ∷ rest) list holds in other (ap (λ (l : List ℕ). get_or l 0 0) p.is)

pub no_shelf_unbegun : IsUnbegun (IsNoShelf Two)
no_shelf_unbegun = record {
  front = front_no_shelf;
  short = λ c le list holds. let p = parts_of Two c list holds in absurd (omega (arith, le, ap length p.is, length-append (shelf_front Two list) (p.gate ∷ p.rest)));
  blank = λ rest. other_no_shelf 0 rest (λ is. absurd (omega (arith, is)));
  torn = λ x rest other. other_no_shelf x (rest_of_mark ++ rest) other;
}

-- the same of what a stopped migration may leave
pub leftover_unbegun : IsUnbegun IsLeftover
leftover_unbegun = record { front = front_leftover; short = short_leftover; blank = λ rest. inr (inl refl); torn = torn_leftover }

pub blank_unbegun : (N : List ℕ → Type 0) → IsUnbegun N → (c : List ℕ) → IsBlank c → N c
blank_unbegun N unbegun [] blank = absurd blank
blank_unbegun N unbegun (x ∷ c) blank = subst (λ (y : ℕ). N (y ∷ c)) (sym blank) (unbegun.blank c)

pub sized_two : (list : List (List ℕ)) → All (IsSized One) list → All (IsSized Two) list
sized_two list sized k d lt = let s = sized k d lt in (s.0, omega (arith, s.1))

module _ (old m1 : DiskShown) (durable : IsDurable m1) (file_is : m1.file ≡ option_map (take 0) old.file) where
  pub emptied : (d : List ℕ) → m1.file ≡ Some d → d ≡ []
  emptied d is = (mapped (take 0) old.file d (sym file_is ∙ is)).2

  pub byte_blank : (m2 : DiskShown) → IsDurable m2 → m2.file ≡ option_map (λ file. overwritten file 0 (0 ∷ [])) m1.file → AllBlank m2
  byte_blank m2 durable_2 file_2 c now =
      let from = mapped (λ file. overwritten file 0 (0 ∷ [])) m1.file c (sym file_2 ∙ durable_2 c now) in
      subst IsBlank (sym (from.2 ∙ ap (λ (f : List ℕ). overwritten f 0 (0 ∷ [])) (emptied from.0 from.1))) refl

module _ (N : List ℕ → Type 0) (unbegun : IsUnbegun N) (old m1 : DiskShown) where
  pub cut_leaves : {E : Type 0} (result : Result (Unit {0}) E) → ((c : List ℕ) → old.images c → N c) → ChangesDurably (take 0) (CutShort 0) old m1 result → LeavesOnly old m1 N
  cut_leaves result none changes = weaker old m1 _ N (λ c part. unbegun.front c part.0 part.2.front (none part.0 part.1)) changes.moments

  pub byte_leaves : {E : Type 0} (durable : IsDurable m1) (file_is : m1.file ≡ option_map (take 0) old.file) (m2 : DiskShown) (bytes : List ℕ) (result : Result (Unit {0}) E)
      → length bytes ≡ 1 → ChangesDurably (λ file. overwritten file 0 bytes) (Torn 0 (length bytes)) m1 m2 result → LeavesOnly m1 m2 N
  byte_leaves durable file_is m2 bytes result one changes = weaker m1 m2 _ N
      (λ c part. unbegun.short c (omega (arith, part.2.no_longer, one, ap length (emptied old m1 durable file_is part.0 (durable part.0 part.1))))) changes.moments

-- a file that isn't begun yet, or is a shelf of the list
abbrev pub IsBegunOr : (List ℕ → Type 0) → List (List ℕ) → List ℕ → Type 0
IsBegunOr N list file = N file ⊎ Holds Two file list

module _ (list : List (List ℕ)) (sized : All (IsSized One) list) (m3 m4 : DiskShown) (durable : IsDurable m3) (file_is : IfSome m3.file (λ file. file ≡ blank_file list)) where
  abbrev behind : List ℕ
  behind = drop 1 (mark Two) ++ records list ++ 0 ∷ []

  whole : 75 ∷ behind ≡ shelf_front Two list ++ 0 ∷ []
  whole = refl

  blank_is : (d : List ℕ) → m3.file ≡ Some d → d ≡ blank_file list
  blank_is d is = of_some (λ f. f ≡ blank_file list) m3.file d is file_is

  torn_first : (c : List ℕ) → Torn 0 1 (blank_file list) c → c ≡ get_or c 0 0 ∷ behind
  torn_first c torn = drop_more c 0 0 (omega (arith, torn.no_shorter)) ∙ ap (λ (l : List ℕ). get_or c 0 0 ∷ l) torn.after

  pub mark_holds : (bytes : List ℕ) → bytes ≡ 75 ∷ [] → IsDurable m4 → m4.file ≡ option_map (λ file. overwritten file 0 bytes) m3.file → HoldsDurably m4 list
  mark_holds bytes are durable_4 file_is_4 =
      let file_4 : m4.file ≡ option_map (λ file. overwritten file 0 (75 ∷ [])) m3.file = file_is_4 ∙ ap (λ (b : List ℕ). option_map (λ file. overwritten file 0 b) m3.file) are in (
        durable_4,
        if_some (λ f. Holds Two f list) m4.file (λ f is.
            let from = mapped (λ file. overwritten file 0 (75 ∷ [])) m3.file f (sym file_4 ∙ is) in
            subst (λ l. Holds Two l list) (sym (from.2 ∙ ap (λ (l : List ℕ). overwritten l 0 (75 ∷ [])) (blank_is from.0 from.1))) (holds_of Two list 0 [] (omega arith) (sized_two list sized))),
      )

  module _ (N : List ℕ → Type 0) (unbegun : IsUnbegun N) where
    begun : (x : ℕ) → IsBegunOr N list (x ∷ behind)
    begun x = elim (cases_eq x 75) [
      | inl is ↦ inr (subst (λ y. Holds Two (y ∷ behind) list) (sym is) (holds_of Two list 0 [] (omega arith) (sized_two list sized)))
      | inr other ↦ inl (unbegun.torn x (records list ++ 0 ∷ []) other)
    ]

    pub mark_leaves : {E : Type 0} (bytes : List ℕ) (result : Result (Unit {0}) E) → length bytes ≡ 1 → ChangesDurably (λ file. overwritten file 0 bytes) (Torn 0 (length bytes)) m3 m4 result → LeavesOnly m3 m4 (IsBegunOr N list)
    mark_leaves bytes result one changes = weaker m3 m4 _ (IsBegunOr N list)
        (λ c part.
        let torn = subst (λ (d : List ℕ). Torn 0 1 d c) (blank_is part.0 (durable part.0 part.1)) (subst (λ (n : ℕ). Torn 0 n part.0 c) one part.2) in
        subst (IsBegunOr N list) (sym (torn_first c torn)) (begun (get_or c 0 0)))
        changes.moments

-- the first steps, up to the last byte
module _ (N : List ℕ → Type 0) (unbegun : IsUnbegun N) (list : List (List ℕ)) (old m1 : DiskShown) (none : (c : List ℕ) → old.images c → N c) where
  either : (from to : DiskShown) → LeavesOnly from to N → LeavesOnly from to (IsBegunOr N list)
  either from to leaves = weaker from to N (IsBegunOr N list) (λ c n. inl n) leaves

  pub after_cut : {E : Type 0} (result : Result (Unit {0}) E) → ChangesDurably (take 0) (CutShort 0) old m1 result → LeavesOnly old m1 (IsBegunOr N list)
  after_cut result cuts = either old m1 (cut_leaves N unbegun old m1 result none cuts)

  module _ (durable : IsDurable m1) (file_is : m1.file ≡ option_map (take 0) old.file) (cut : LeavesOnly old m1 (IsBegunOr N list)) (m2 : DiskShown) where
    pub after_byte : {E : Type 0} (result : Result (Unit {0}) E) → ChangesDurably (λ file. overwritten file 0 (0 ∷ [])) (Torn 0 1) m1 m2 result → LeavesOnly old m2 (IsBegunOr N list)
    after_byte result puts = and_then old m1 m2 (IsBegunOr N list) cut (either m1 m2 (byte_leaves N unbegun old m1 durable file_is m2 (0 ∷ []) result refl puts))

    pub after_behind : (m3 : DiskShown) → LeavesOnly old m2 (IsBegunOr N list) → IsDurable m2 → m2.file ≡ option_map (λ file. overwritten file 0 (0 ∷ [])) m1.file → (AllBlank m2 → LeavesOnly m2 m3 IsBlank) → LeavesOnly old m3 (IsBegunOr N list)
    after_behind m3 byte durable_2 file_2 moments = and_then old m2 m3 (IsBegunOr N list) byte
        (weaker m2 m3 IsBlank (IsBegunOr N list) (λ c blank. inl (blank_unbegun N unbegun c blank)) (moments (byte_blank old m1 durable file_is m2 durable_2 file_2)))

    pub all_but_first : {E : Type 0} (m3 : DiskShown) (first : Result (Unit {0}) E) → ChangesDurably (λ file. overwritten file 0 (0 ∷ [])) (Torn 0 1) m1 m2 first → IsDurable m2
        → m2.file ≡ option_map (λ file. overwritten file 0 (0 ∷ [])) m1.file → (AllBlank m2 → LeavesOnly m2 m3 IsBlank) → LeavesOnly old m3 (IsBegunOr N list)
    all_but_first m3 first puts durable_2 file_2 moments = after_behind m3 (after_byte first puts) durable_2 file_2 moments
