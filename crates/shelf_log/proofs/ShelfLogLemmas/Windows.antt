-- What a scan of one more window of a file has read.
use Rattle.std.proofs.Common.{◌≡◌, ◌≢◌, inl, inr, ℕ, ◌+◌, ◌<◌, ◌≤◌, List, [], ◌++◌, length, take, drop, slice_get, IsSomeAnd, IfSome, Option, Some, refl, sym, ◌∙◌, ap, subst, arith, append_assoc, append-nil, take-append-drop, drop_at, length-drop}
use Rattle.std.proofs.lemmas.List.{drop_all}
use Rattle.shelf_log.specs.ShelfLog.Format.{greatest, Holds, FailsAt, EndsIn, IsOutOfRange, records, shelf_front}
use Rattle.shelf_log.specs.KeriDisk.Calls.{AreBytesAt}
use Rattle.shelf_log.specs.ShelfLog.Scans.{HasRead, GoesThrough, GoesOn, IsEnd, ReadsOn}
use Rattle.shelf_log.specs.declared.shelf_log.piece.End.{End}
use Rattle.shelf_log.specs.declared.shelf_log.piece.End.TheVariants.{Closed, Part, OutOfRange}
use Rattle.shelf_log.specs.declared.shelf_log.scan.Scan.{Scan}
use Rattle.shelf_log.specs.declared.shelf_log.version.Version.{Version}
use Rattle.shelf_log.specs.declared.shelf_log.version.Version.TheVariants.{One, Two}
use Rattle.shelf_log.proofs.ShelfLogLemmas.Files.{if_some, split_at, holds_of, front-append}

module _ (file : List ℕ) (old new : Scan) (payloads : List (List ℕ)) (window rest : List ℕ) (read : HasRead old payloads)
    (front : file ≡ shelf_front old.version payloads ++ drop old.offset file) (are : window ≡ take (length window) (drop old.offset file)) (through : GoesThrough window rest old new) where
  abbrev list : List (List ℕ)
  list = payloads ++ through.more

  abbrev tail : List ℕ
  tail = drop (length window) (drop old.offset file)

  pub read_more : HasRead new list
  read_more = through.read payloads read

  window_of : drop old.offset file ≡ records through.more ++ (rest ++ tail)
  window_of = sym (take-append-drop (length window) (drop old.offset file)) ∙ ap (λ (l : List ℕ). l ++ tail) (sym are ∙ through.window_is) ∙ append_assoc (records through.more) rest tail

  pub whole : file ≡ shelf_front new.version list ++ (rest ++ tail)
  whole =
      front ∙ ap (λ (l : List ℕ). shelf_front old.version payloads ++ l) window_of
      ∙ sym (append_assoc (shelf_front old.version payloads) (records through.more) (rest ++ tail))
      ∙ ap (λ (l : List ℕ). l ++ (rest ++ tail)) (sym (front-append old.version payloads through.more))
      ∙ ap (λ (v : Version). shelf_front v list ++ (rest ++ tail)) (sym through.of.0)

  pub front_more : file ≡ shelf_front new.version list ++ drop new.offset file
  front_more = whole ∙ ap (λ (l : List ℕ). shelf_front new.version list ++ l)
      (sym (ap (drop new.offset) whole ∙ drop_at (shelf_front new.version list) (rest ++ tail) new.offset (sym read_more.offset)))

  -- at a closed gate the file is a shelf
  pub closed_holds : IsSomeAnd (slice_get rest 0) (λ gate. gate ≢ 1) → Holds new.version file list
  closed_holds gate =
      let s = split_at rest 0 (λ x. x ≢ 1) gate in
      subst (λ f. Holds new.version f list) (sym (whole ∙ ap (λ (l : List ℕ). shelf_front new.version list ++ (l ++ tail)) s.2)) (holds_of new.version list s.0 (s.1 ++ tail) s.3 read_more.sized)

  -- what ends too soon in the last window ends too soon in the file
  pub part_fails : (behind : ℕ) → EndsIn old.version rest behind → length file ≤ old.offset + length window → FailsAt new.version file (new.offset + behind)
  part_fails behind ends last =
      let none : tail ≡ [] = drop_all (length window) (drop old.offset file) (omega (arith, last, length-drop old.offset file)) in
      inr (
        list,
        rest,
        behind,
        whole ∙ ap (λ (l : List ℕ). shelf_front new.version list ++ l) (ap (λ (l : List ℕ). rest ++ l) none ∙ append-nil rest),
        read_more.sized,
        inl (subst (λ (v : Version). EndsIn v rest behind) (sym through.of.0) ends),
        ap (λ (m : ℕ). m + behind) read_more.offset,
      )

  pub range_fails : IsOutOfRange old.version rest 1 → FailsAt new.version file (new.offset + 1)
  range_fails out =
      inr (
        list,
        rest ++ tail,
        1,
        whole,
        read_more.sized,
        inr (subst (λ (v : Version). IsOutOfRange v (rest ++ tail) 1) (sym through.of.0) (out.0, out.1 ++ tail, ap (λ (l : List ℕ). l ++ tail) out.2, out.3, out.4, refl)),
        ap (λ (m : ℕ). m + 1) read_more.offset,
      )

greatest_small : (version : Version) → greatest version ≤ 524288
greatest_small One = omega arith
greatest_small Two = omega arith

-- what ends too soon is short
pub short_end : (version : Version) (rest : List ℕ) (behind : ℕ) → EndsIn version rest behind → length rest < 1000000
short_end version rest behind (inl none) = omega (arith, ap length none.0)
short_end version rest behind (inr (inl part)) = omega (arith, ap length part.1, part.2)
short_end version rest behind (inr (inr part)) = omega (arith, ap length part.2, part.3.1, part.4, greatest_small version)

-- a fact about what is there is one about this
pub of_some : {T : Type 0} (P : T → Type 0) (o : Option T) (x : T) → o ≡ Some x → IfSome o P → P x
of_some P o x is holds = subst (λ p. IfSome p P) is holds

module _ (o seen : Option (List ℕ)) (old new : Scan) (end : End) (window : List ℕ) (on : ReadsOn o old) (same : seen ≡ o) (bytes : AreBytesAt seen old.offset window) (goes : GoesOn window old new end) where
  module _ (file : List ℕ) (is : o ≡ Some file) where
    front_is : file ≡ shelf_front old.version on.payloads ++ drop old.offset file
    front_is = of_some (λ f. f ≡ shelf_front old.version on.payloads ++ drop old.offset f) o file is on.front

    bytes_are : window ≡ take (length window) (drop old.offset file)
    bytes_are = subst (λ p. AreBytesAt p old.offset window) (same ∙ is) bytes

    pub scan_closed : end ≡ Closed → (list : List (List ℕ)) × HasRead new list × Holds new.version file list
    scan_closed ends = (
      on.payloads ++ goes.1.more,
      read_more file old new on.payloads window goes.0 on.read front_is bytes_are goes.1,
      closed_holds file old new on.payloads window goes.0 on.read front_is bytes_are goes.1 (subst (IsEnd old.version goes.0) ends goes.2),
    )

    pub scan_part : (behind : ℕ) → end ≡ Part behind → length file ≤ old.offset + length window → FailsAt new.version file (new.offset + behind)
    scan_part behind ends last = part_fails file old new on.payloads window goes.0 on.read front_is bytes_are goes.1 behind (subst (IsEnd old.version goes.0) ends goes.2) last

    pub scan_out : end ≡ OutOfRange → FailsAt new.version file (new.offset + 1)
    scan_out ends = range_fails file old new on.payloads window goes.0 on.read front_is bytes_are goes.1 (subst (IsEnd old.version goes.0) ends goes.2)

    more_is : file ≡ shelf_front new.version (on.payloads ++ goes.1.more) ++ drop new.offset file
    more_is = front_more file old new on.payloads window goes.0 on.read front_is bytes_are goes.1

  pub scan_on : ReadsOn o new
  scan_on = record {
    payloads = on.payloads ++ goes.1.more;
    read = goes.1.read on.payloads on.read;
    front = if_some (λ f. f ≡ shelf_front new.version (on.payloads ++ goes.1.more) ++ drop new.offset f) o (λ f is. more_is f is);
  }

  pub scan_moves : (behind : ℕ) → end ≡ Part behind → 1000000 ≤ length window → old.offset < new.offset
  scan_moves behind ends long = omega (arith, goes.1.offset, long, short_end old.version goes.0 behind (subst (IsEnd old.version goes.0) ends goes.2))

  pub scan_within : new.offset ≤ old.offset + length window
  scan_within = omega (arith, goes.1.offset)
