-- Lines that are read one after the other.
use Rattle.std.proofs.Common.{◌≡◌, ◌≢◌, ℕ, ◌+◌, ◌<◌, ◌≤◌, List, [], ◌∷◌, ◌++◌, length, refl, sym, ap, subst, ◌∙◌, arith, append_assoc, append-nil, length-append, length-drop}
use Rattle.controller_core.specs.declared.plan_text.kind.Kind.{Kind}
use Rattle.controller_core.specs.declared.plan_text.entry.Entry.{Entry}
use Rattle.controller_core.specs.PlanText.Lines.{Splits}
use Rattle.controller_core.specs.PlanText.Entries.{BeginsEntry, AreLines, IsLine}
use Rattle.controller_core.specs.PlanText.Sheets.{Sheet, IsOnce, sheet_of}
use Rattle.controller_core.specs.PlanText.Reading.{IsBadLine, IsRead}
use Rattle.controller_core.specs.PlanText.Drafts.{empty, push, TakesLine, IsRefusedLine}
use Rattle.controller_core.proofs.PlanTextLemmas.Sheets.{sheet_of-push, once_before}

-- what stands behind a byte is shorter
shorter : (separator : ℕ) (bytes front behind : List ℕ) → Splits separator bytes front behind → length behind < length bytes
shorter separator bytes front behind parts = omega (arith, parts.stands, simp length-drop at (ap length parts.behind_is))

no_line : (separator : ℕ) (bytes front behind : List ℕ) → Splits separator bytes front behind → bytes ≢ []
no_line separator bytes front behind parts e = omega (arith, shorter separator bytes front behind parts, ap length e)

-- what comes in the line of this number is one entry more
pushed : (entries : List Entry) (is : Entry) (number : ℕ) → number ≡ length entries + 2 → push number is (sheet_of entries) ≡ sheet_of (entries ++ is ∷ [])
pushed entries is number counted =
    let same : number ≡ 2 + length entries = omega (arith, counted) in
    ap (λ n. push n is (sheet_of entries)) same ∙ sym (sheet_of-push entries is)

module _ (kind : Kind) where
  -- one line more
  line_more : (entries : List Entry) (is : Entry) (text behind rest : List ℕ) → AreLines kind entries text behind → BeginsEntry kind is behind rest → AreLines kind (entries ++ is ∷ []) text rest
  line_more [] is text behind rest none begins = (rest, subst (λ t. BeginsEntry kind is t rest) none begins, refl)
  line_more (first ∷ entries) is text behind rest lines begins = (lines.0, lines.1, line_more entries is lines.0 behind rest lines.2 begins)

  -- The lines up to the rest are read as these entries, and no others are spelled there.
  pub record IsSoFar (text rest : List ℕ) (sheet : Sheet) (number : ℕ) : Type 0 where
    pub entries : List Entry
    pub lines : AreLines kind entries text rest
    pub holds : sheet ≡ sheet_of entries
    pub number_is : number ≡ length entries + 2
    pub short : number + length rest ≤ length text + 2
    pub only : (all : List Entry) → AreLines kind all text [] → (more : List Entry) × (all ≡ entries ++ more) × AreLines kind more rest []

  pub start : (text : List ℕ) (sheet : Sheet) → sheet ≡ empty → IsSoFar text text sheet 2
  start text sheet is = record {
    entries = [];
    lines = refl;
    holds = is;
    number_is = refl;
    short = omega arith;
    only = λ all lines. (all, refl, lines);
  }

  -- the entries behind the next one
  behind_next : (all entries more : List Entry) (rest behind : List ℕ) (number : ℕ) (old new : Sheet) (takes : TakesLine kind number rest behind old new) → all ≡ entries ++ more → AreLines kind more rest []
      → (others : List Entry) × (all ≡ (entries ++ takes.is ∷ []) ++ others) × AreLines kind others behind []
  behind_next all entries [] rest behind number old new takes are lines = absurd (no_line 10 rest takes.line behind takes.first (sym lines))
  behind_next all entries (first ∷ more) rest behind number old new takes are lines =
      let begins = lines.1 in
      let line_is : begins.line ≡ takes.line = begins.first.front_is ∙ sym takes.first.front_is in
      let same = takes.one first (subst (λ l. IsLine kind l first) line_is begins.spells) in (
        more,
        are ∙ ap (λ e. entries ++ e ∷ more) same ∙ sym (append_assoc entries (takes.is ∷ []) more),
        subst (λ t. AreLines kind more t []) (begins.first.behind_is ∙ sym takes.first.behind_is) lines.2,
      )

  pub step : (text rest behind : List ℕ) (old new : Sheet) (number : ℕ) → IsSoFar text rest old number → TakesLine kind number rest behind old new → IsSoFar text behind new (number + 1)
  step text rest behind old new number so takes = record {
    entries = so.entries ++ takes.is ∷ [];
    lines = line_more so.entries takes.is text rest behind so.lines (record { line = takes.line; first = takes.first; spells = takes.spells });
    holds = takes.pushed ∙ ap (push number takes.is) so.holds ∙ pushed so.entries takes.is number so.number_is;
    number_is = omega (arith, so.number_is, length-append so.entries (takes.is ∷ []));
    short = omega (arith, so.short, shorter 10 rest takes.line behind takes.first);
    only = λ all lines. let old_only = so.only all lines in behind_next all so.entries old_only.0 rest behind number old new takes old_only.1 old_only.2;
  }

  pub fewer_left : (rest behind : List ℕ) (number : ℕ) (old new : Sheet) → TakesLine kind number rest behind old new → length behind < length rest
  fewer_left rest behind number old new takes = shorter 10 rest takes.line behind takes.first

  -- a line that no entry spells that may come
  pub bad_line : (text rest : List ℕ) (sheet : Sheet) (number : ℕ) → IsSoFar text rest sheet number → rest ≢ [] → IsOnce sheet → IsRefusedLine kind number rest sheet → IsBadLine kind text number
  bad_line text rest sheet number so more once refused = record {
    entries = so.entries;
    rest = rest;
    spelled = so.lines;
    once = subst IsOnce so.holds once;
    more = more;
    number = so.number_is;
    none = λ is behind begins good.
        refused is begins.line behind begins.first begins.spells (subst IsOnce (sym (pushed so.entries is number so.number_is) ∙ ap (push number is) (sym so.holds)) good);
  }

  no_next : (all entries more : List Entry) (rest : List ℕ) (sheet : Sheet) (number : ℕ) → number ≡ length entries + 2 → sheet ≡ sheet_of entries → rest ≢ [] → IsRefusedLine kind number rest sheet → all ≡ entries ++ more → AreLines kind more rest [] → ¬ IsOnce (sheet_of all)
  no_next all entries [] rest sheet number counted holds some refused are lines once = some (sym lines)
  no_next all entries (is ∷ more) rest sheet number counted holds some refused are lines once =
      let begins = lines.1 in
      let good = once_before (entries ++ is ∷ []) more (subst (λ l. IsOnce (sheet_of l)) (are ∙ sym (append_assoc entries (is ∷ []) more)) once) in
      refused is begins.line lines.0 begins.first begins.spells (subst IsOnce (sym (pushed entries is number counted) ∙ ap (push number is) (sym holds)) good)

  pub none_then : (text rest : List ℕ) (sheet : Sheet) (number : ℕ) → IsSoFar text rest sheet number → rest ≢ [] → IsRefusedLine kind number rest sheet → (all : List Entry) → AreLines kind all text [] → ¬ IsOnce (sheet_of all)
  none_then text rest sheet number so some refused all lines = let only = so.only all lines in no_next all so.entries only.0 rest sheet number so.number_is so.holds some refused only.1 only.2

  -- the lines are read to the end
  pub read_of : (text : List ℕ) (sheet : Sheet) (number : ℕ) → IsSoFar text [] sheet number → IsOnce sheet → IsRead kind text sheet
  read_of text sheet number so once = record { entries = so.entries; spelled = so.lines; once = subst IsOnce so.holds once; is = so.holds }

  no_more : (all entries more : List Entry) → all ≡ entries ++ more → AreLines kind more [] [] → all ≡ entries
  no_more all entries [] are lines = are ∙ append-nil entries
  no_more all entries (is ∷ more) are lines = let begins = lines.1 in absurd (no_line 10 [] begins.line lines.0 begins.first refl)

  pub sheet_is : (text : List ℕ) (sheet : Sheet) (number : ℕ) → IsSoFar text [] sheet number → (all : List Entry) → AreLines kind all text [] → sheet ≡ sheet_of all
  sheet_is text sheet number so all lines = let only = so.only all lines in so.holds ∙ ap sheet_of (sym (no_more all so.entries only.0 only.1 only.2))
