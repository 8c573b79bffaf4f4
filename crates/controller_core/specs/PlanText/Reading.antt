-- What reading a plan's text answers.
use Rattle.std.specs.Prelude.{◌≡◌, ◌≢◌, ◌⊎◌, ℕ, ◌+◌, List, [], ◌∷◌, ◌++◌, length, ⊤, Result, Ok, Err}
use Rattle.controller_core.specs.declared.plan_text.kind.Kind.{Kind}
use Rattle.controller_core.specs.declared.plan_text.entry.Entry.{Entry}
use Rattle.controller_core.specs.declared.plan_text.event_plan.EventPlan.{EventPlan}
use Rattle.controller_core.specs.declared.plan_text.line_fault.LineFault.{LineFault}
use Rattle.controller_core.specs.declared.plan_text.line_fault.LineFault.TheVariants as line
use Rattle.controller_core.specs.declared.plan_text.plan_text_fault.PlanTextFault.{PlanTextFault}
use Rattle.controller_core.specs.declared.plan_text.plan_text_fault.PlanTextFault.TheVariants.{Line, OutOfMemory}
use Rattle.controller_core.specs.PlanText.Entries.{BeginsEntry, AreLines}
use Rattle.controller_core.specs.PlanText.Promises.{HasFirstReuse}
use Rattle.controller_core.specs.PlanText.Sheets.{Sheet, IsOnce, sheet_of}
use Rattle.controller_core.specs.PlanText.Plans.{BeginsWith, IsEventPlan, IsGoodText}

-- the value, unless memory runs out
abbrev pub Gives : {A : Type 0} → Result A LineFault → A → Type 0
Gives result value = (result ≡ Ok value) ⊎ (result ≡ Err line.OutOfMemory)

-- Behind the kind's line stand good lines, and then more, whose first line isn't ended, or is none that may follow them. It
-- has this number, and the kind's line the number 1.
pub record IsBadLine (kind : Kind) (lines : List ℕ) (n : ℕ) : Type 0 where
  pub entries : List Entry
  pub rest : List ℕ
  pub spelled : AreLines kind entries lines rest
  pub once : IsOnce (sheet_of entries)
  pub more : rest ≢ []
  pub number : n ≡ length entries + 2
  pub none : (is : Entry) (behind : List ℕ) → BeginsEntry kind is rest behind → ¬ IsOnce (sheet_of (entries ++ is ∷ []))

-- The cause of a refused line: the first names no kind, a later one is the first that is bad, good lines make no plan, or one
-- is the first of them that promises a key which the plan has already.
pub data IsRefusedAt (text : List ℕ) (n : ℕ) : Type 0 where
  no_kind : ((kind : Kind) (lines : List ℕ) → ¬ BeginsWith kind text lines) → n ≡ 1 → IsRefusedAt text n
  bad_line : (kind : Kind) (lines : List ℕ) → BeginsWith kind text lines → IsBadLine kind lines n → IsRefusedAt text n
  no_plan : (kind : Kind) (entries : List Entry) → IsGoodText text kind entries → ((plan : EventPlan) → ¬ IsEventPlan kind (sheet_of entries) plan) → n ≡ 1 → IsRefusedAt text n
  reuse : (kind : Kind) (entries : List Entry) (plan : EventPlan) → IsGoodText text kind entries
      → IsEventPlan kind (sheet_of entries) plan → HasFirstReuse (sheet_of entries) n → IsRefusedAt text n

-- the cause of a fault
abbrev pub IsCause : List ℕ → PlanTextFault → Type 0
IsCause text (Line n) = IsRefusedAt text n
IsCause text OutOfMemory = ⊤

-- the same of the lines behind the first
abbrev pub IsLineCause : Kind → List ℕ → PlanTextFault → Type 0
IsLineCause kind lines (Line n) = IsBadLine kind lines n
IsLineCause kind lines OutOfMemory = ⊤

-- these lines are good, and give this
pub record IsRead (kind : Kind) (lines : List ℕ) (sheet : Sheet) : Type 0 where
  pub entries : List Entry
  pub spelled : AreLines kind entries lines []
  pub once : IsOnce (sheet_of entries)
  pub is : sheet ≡ sheet_of entries
