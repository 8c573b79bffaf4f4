-- The accepted events by their identifiers.
use Rattle.std.specs.Prelude.{◌≡◌, ℕ, ◌<◌, ◌==◌, List, [], ◌∷◌, ◌++◌, map, length, slice_get, All, OnOk, Option, Result, Some, None}
use Rattle.std.specs.List.{list_any}
use Rattle.std.specs.List.Sorted.{IsPermutation}
use Rattle.std.specs.Ordering.{nat_cmp}
use Rattle.std.specs.Cmp.Lexicographic.{slice_cmp}
use Rattle.std.specs.BTreeMap.{is_at}
use Rattle.std.specs.Map.{lookup}
use Rattle.cesr_codes.specs.Spelling.{IsPrefix, prefix_text}
use Rattle.cesr_codes.specs.declared.prefix.Prefix.{Prefix}
use Rattle.event_body.specs.EventBody.Events.{prefix_of}
use Rattle.journal.specs.declared.journal.body.Body.{Body}
use Rattle.journal.specs.Journal.Journals.{chosen}
use Rattle.journal.specs.Journal.Logs.{is_in}
use Rattle.report_lines.specs.Report.{own_of, prefixes_of}
use Rattle.report_lines.specs.declared.logs.Log.{Log}

-- the texts and the prefixes of the entries
abbrev pub heads_of : List (List ℕ × Log) → List (List ℕ × Prefix)
heads_of entries = map (λ e. (e.0, e.1.prefix)) entries

-- their prefixes alone
abbrev pub prefixes_in : List (List ℕ × Log) → List Prefix
prefixes_in entries = map (λ h. h.1) (heads_of entries)

-- the text is that of the prefix
abbrev pub IsHead : List ℕ × Prefix → Type 0
IsHead h = (h.0 ≡ prefix_text h.1) × IsPrefix h.1

-- the numbers of a log, or none
abbrev pub items_of : Option Log → List ℕ
items_of None = []
items_of (Some log) = log.numbers.items

-- the numbers that stand at the text of a prefix
abbrev pub numbers_at : List (List ℕ × Log) → Prefix → List ℕ
numbers_at entries prefix = items_of (lookup (is_at (slice_cmp nat_cmp (prefix_text prefix))) entries)

-- Each identifier of the events has its log, and there are no others. At the text of a prefix stand the numbers of its own
-- events, in order.
pub record AreLogs (held log : List Body) (entries : List (List ℕ × Log)) : Type 0 where
  pub heads : All IsHead (heads_of entries)
  pub members : IsPermutation (prefixes_of log) (prefixes_in entries)
  pub numbers_held : (p : Prefix) → IsPrefix p → All (λ n. n < length held) (numbers_at entries p)
  pub own : (p : Prefix) → IsPrefix p → chosen held (numbers_at entries p) ≡ own_of p log

-- the event of a number, which has this identifier, is logged next, unless memory runs out
abbrev pub LogsNext : {E : Type 0} → ℕ → Prefix → List (List ℕ × Log) → List (List ℕ × Log) → Result (Unit {0}) E → Type 0
LogsNext number prefix entries entries_new result = (held log : List Body) (b : Body) → slice_get held number ≡ Some b → prefix_of b.event ≡ prefix
    → AreLogs held log entries → OnOk result (AreLogs held (log ++ b ∷ []) entries_new)

-- the numbers are those of the bodies, as far as bodies are held
abbrev pub Marks : List Body → List ℕ → List Body → Type 0
Marks held numbers bodies = (n : ℕ) (b : Body) → slice_get held n ≡ Some b → is_in bodies b ≡ list_any (λ m. m == n) numbers
