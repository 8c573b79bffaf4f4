-- The plan that a text spells.
use Rattle.std.proofs.Common.{◌≡◌, ℕ, List, [], ◌∷◌, refl, sym, ap, subst, ◌∙◌, unwrap_or}
use Rattle.std.specs.List.{find}
use Rattle.std.specs.Str.{bytes_eq}
use Rattle.controller_core.specs.declared.plan_text.kind.Kind.{Kind}
use Rattle.controller_core.specs.declared.plan_text.kind.Kind.TheVariants.{Icp, Dip, Rot, Drt, Ixn}
use Rattle.controller_core.specs.declared.plan_text.entry.Entry.{Entry}
use Rattle.controller_core.specs.declared.plan_text.event_plan.EventPlan.{EventPlan}
use Rattle.controller_core.specs.declared.plan_text.plan_text_fault.PlanTextFault.{PlanTextFault}
use Rattle.controller_core.specs.declared.plan_text.plan_text_fault.PlanTextFault.TheVariants.{Line, OutOfMemory}
use Rattle.controller_core.specs.PlanText.Entries.{kind_line, AreLines}
use Rattle.controller_core.specs.PlanText.Promises.{HasFirstReuse, PromisesNewKeys}
use Rattle.controller_core.specs.PlanText.Sheets.{Sheet, IsOnce, sheet_of}
use Rattle.controller_core.specs.PlanText.Plans.{BeginsWith, IsEventPlan, IsGoodText, IsPlanText}
use Rattle.controller_core.specs.PlanText.Reading.{IsCause, IsLineCause, IsRefusedAt, IsRead, bad_line, no_plan, reuse}

abbrev kinds : List Kind
kinds = Icp ∷ Dip ∷ Rot ∷ Drt ∷ Ixn ∷ []

-- the kind that a line names
abbrev kind_of : List ℕ → Kind
kind_of line = unwrap_or (find (λ kind. bytes_eq (kind_line kind) line) kinds) Icp

kind_of-kind_line : (kind : Kind) → kind_of (kind_line kind) ≡ kind
kind_of-kind_line Icp = refl
kind_of-kind_line Dip = refl
kind_of-kind_line Rot = refl
kind_of-kind_line Drt = refl
kind_of-kind_line Ixn = refl

same_kind : (a b : Kind) → kind_line a ≡ kind_line b → a ≡ b
same_kind a b e = sym (kind_of-kind_line a) ∙ ap kind_of e ∙ kind_of-kind_line b

module _ (text : List ℕ) (kind : Kind) (lines : List ℕ) (begins : BeginsWith kind text lines) where
  pub cause_of : (fault : PlanTextFault) → IsLineCause kind lines fault → IsCause text fault
  cause_of (Line n) is = bad_line kind lines begins is
  cause_of OutOfMemory is = tt

  -- another plan of the text has the same kind and lines
  pub lines_in : (other : Kind) (entries : List Entry) → IsGoodText text other entries → (other ≡ kind) × AreLines kind entries lines []
  lines_in other entries good =
      let same : other ≡ kind = same_kind other kind (good.begins.front_is ∙ sym begins.front_is) in
      let rest : good.lines ≡ lines = good.begins.behind_is ∙ sym begins.behind_is in
      (same, subst (λ k. AreLines k entries lines []) same (subst (λ l. AreLines other entries l []) rest good.spelled))

  -- what is read of the lines is what any plan of the text says
  pub plan_in : (sheet : Sheet) → ((entries : List Entry) → AreLines kind entries lines [] → IsOnce (sheet_of entries) → sheet ≡ sheet_of entries) → (plan : EventPlan) → IsPlanText text plan → IsEventPlan kind sheet plan
  plan_in sheet reads plan is =
      let found = lines_in is.kind is.entries is.good in
      subst (λ s. IsEventPlan kind s plan) (sym (reads is.entries found.1 is.good.once)) (subst (λ k. IsEventPlan k (sheet_of is.entries) plan) found.0 is.is)

  module _ (sheet : Sheet) (read : IsRead kind lines sheet) where
    good : IsGoodText text kind read.entries
    good = record { lines = lines; begins = begins; spelled = read.spelled; once = read.once }

    -- where the lines make a plan, and a promise is of a key that it has already
    pub reuse_in : (plan : EventPlan) → IsEventPlan kind sheet plan → (line : ℕ) → HasFirstReuse sheet line → IsRefusedAt text line
    reuse_in plan is line first = reuse kind read.entries plan good (subst (λ s. IsEventPlan kind s plan) read.is is) (subst (λ s. HasFirstReuse s line) read.is first)

    -- where the lines make no plan
    pub no_plan_in : ((plan : EventPlan) → ¬ IsEventPlan kind sheet plan) → IsRefusedAt text 1
    no_plan_in none = no_plan kind read.entries good (λ plan is. none plan (subst (λ s. IsEventPlan kind s plan) (sym read.is) is)) refl

  -- a plan of the text has no such promise
  pub no_reuse : (sheet : Sheet) → ((entries : List Entry) → AreLines kind entries lines [] → IsOnce (sheet_of entries) → sheet ≡ sheet_of entries) → (line : ℕ) → HasFirstReuse sheet line
      → (plan : EventPlan) → ¬ IsPlanText text plan
  no_reuse sheet reads line first plan is =
      let found = lines_in is.kind is.entries is.good in
      let fresh = subst PromisesNewKeys (sym (reads is.entries found.1 is.good.once)) is.fresh in
      let not_reuse = fresh first.earlier first.later first.promise first.parts in
      let reuse = first.reuse in cc (reuse, not_reuse)
