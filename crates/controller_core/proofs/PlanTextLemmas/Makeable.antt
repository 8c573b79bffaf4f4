-- A plan that a text spells is one of which a message may be made.
use Rattle.std.proofs.Common.{◌≡◌, ℕ, List, [], ◌∷◌, Option, Some, None, sym, subst}
use Rattle.std.specs.Prelude.{⊤, is_some, option_map}
use Rattle.std.specs.List.{AllByRecursion, filter_map}
use Rattle.json_tree.specs.Spelling.{IsJson}
use Rattle.json_tree.specs.Strings.{IsString}
use Rattle.controller_core.specs.declared.plan_text.entry.Entry.{Entry}
use Rattle.controller_core.specs.declared.plan_text.entry.Entry.TheVariants as entry
use Rattle.controller_core.specs.declared.plan_text.event_plan.EventPlan.{EventPlan}
use Rattle.controller_core.specs.declared.plan_text.event_plan.PlannedEvent.{PlannedEvent}
use Rattle.controller_core.specs.declared.plan_text.event_plan.PlannedEvent.TheVariants.{Inception, Rotation, Interaction}
use Rattle.cesr_codes.specs.declared.prefix.Prefix.{Prefix}
use Rattle.controller_core.specs.declared.plan_text.kind.Kind.{Kind}
use Rattle.controller_core.specs.declared.plan_text.kind.Kind.TheVariants.{Icp, Dip, Rot, Drt, Ixn}
use Rattle.controller_core.specs.declared.plan_text.name.Name.{Name}
use Rattle.controller_core.specs.declared.plan_text.name.Name.TheVariants as name
use Rattle.controller_core.specs.PlanText.Entries.{AreLines, Says}
use Rattle.controller_core.specs.PlanText.Makeable.{HasDelegator, IsMakeable}
use Rattle.controller_core.specs.PlanText.Plans.{IsPlanText, event_of, first_of, has_delegator, identifier_in, plan_of}
use Rattle.controller_core.specs.PlanText.Sheets.{Sheet, seal_in, sheet_of, trait_in}

-- what is true of an entry that a line spells
abbrev IsGood : Entry → Type 0
IsGood (entry.Trait text) = IsString text
IsGood (entry.Seal tree) = IsJson tree
IsGood _ = ⊤

good_said : (kind : Kind) (n : Name) (value : List ℕ) (is : Entry) → Says kind n value is → IsGood is
good_said kind name.Prefix value is s = rw s.2 tt
good_said kind name.Code value is s = rw s.2 tt
good_said kind name.Kt value is s = rw s.2 tt
good_said kind name.Nt value is s = rw s.2 tt
good_said kind name.Key value is s = rw s.3 tt
good_said kind name.Next value is s = rw s.3 tt
good_said kind name.Cut value is s = rw s.3 tt
good_said kind name.Add value is s = rw s.3 tt
good_said kind name.Bt value is s = rw s.2 tt
good_said kind name.Trait value is s = rw s.2 s.1.0.0
good_said kind name.Seal value is s = rw s.2 s.1.0.0
good_said kind name.Di value is s = rw s.3 tt
good_said kind name.Sign value is s = rw s.3 tt
good_said kind name.Reuse value is s = rw s.1 tt

good_lines : (kind : Kind) (entries : List Entry) (text rest : List ℕ) → AreLines kind entries text rest → AllByRecursion IsGood entries
good_lines kind [] text rest a = tt
good_lines kind (first ∷ entries) text rest a =
    let line = a.1.spells in
    (good_said kind line.name line.value first line.says, good_lines kind entries a.0 rest a.2)

-- the seals and the traits among good entries
seals_are_json : (entries : List Entry) → AllByRecursion IsGood entries → AllByRecursion IsJson (filter_map seal_in entries)
seals_are_json [] a = tt
seals_are_json (entry.Prefix given ∷ entries) a = seals_are_json entries a.1
seals_are_json (entry.Code code ∷ entries) a = seals_are_json entries a.1
seals_are_json (entry.Kt threshold ∷ entries) a = seals_are_json entries a.1
seals_are_json (entry.Nt threshold ∷ entries) a = seals_are_json entries a.1
seals_are_json (entry.Key key ∷ entries) a = seals_are_json entries a.1
seals_are_json (entry.Next digest ∷ entries) a = seals_are_json entries a.1
seals_are_json (entry.Cut key ∷ entries) a = seals_are_json entries a.1
seals_are_json (entry.Add key ∷ entries) a = seals_are_json entries a.1
seals_are_json (entry.Bt toad ∷ entries) a = seals_are_json entries a.1
seals_are_json (entry.Trait text ∷ entries) a = seals_are_json entries a.1
seals_are_json (entry.Seal tree ∷ entries) a = (a.0, seals_are_json entries a.1)
seals_are_json (entry.Di prefix ∷ entries) a = seals_are_json entries a.1
seals_are_json (entry.Sign slot ∷ entries) a = seals_are_json entries a.1
seals_are_json (entry.Reuse ∷ entries) a = seals_are_json entries a.1

traits_are_strings : (entries : List Entry) → AllByRecursion IsGood entries → AllByRecursion IsString (filter_map trait_in entries)
traits_are_strings [] a = tt
traits_are_strings (entry.Prefix given ∷ entries) a = traits_are_strings entries a.1
traits_are_strings (entry.Code code ∷ entries) a = traits_are_strings entries a.1
traits_are_strings (entry.Kt threshold ∷ entries) a = traits_are_strings entries a.1
traits_are_strings (entry.Nt threshold ∷ entries) a = traits_are_strings entries a.1
traits_are_strings (entry.Key key ∷ entries) a = traits_are_strings entries a.1
traits_are_strings (entry.Next digest ∷ entries) a = traits_are_strings entries a.1
traits_are_strings (entry.Cut key ∷ entries) a = traits_are_strings entries a.1
traits_are_strings (entry.Add key ∷ entries) a = traits_are_strings entries a.1
traits_are_strings (entry.Bt toad ∷ entries) a = traits_are_strings entries a.1
traits_are_strings (entry.Trait text ∷ entries) a = (a.0, traits_are_strings entries a.1)
traits_are_strings (entry.Seal tree ∷ entries) a = traits_are_strings entries a.1
traits_are_strings (entry.Di prefix ∷ entries) a = traits_are_strings entries a.1
traits_are_strings (entry.Sign slot ∷ entries) a = traits_are_strings entries a.1
traits_are_strings (entry.Reuse ∷ entries) a = traits_are_strings entries a.1

-- an event that isn't an inception has the identifier's prefix
others : (kind : Kind) (sheet : Sheet) (event : PlannedEvent) → event_of kind sheet.prefixes ≡ Some event → is_some (first_of sheet.delegators) ≡ has_delegator kind → HasDelegator (plan_of kind sheet) event
others Icp sheet event e d = let same : Inception ≡ event = cc e in rw (sym same) d
others Dip sheet event e d = let same : Inception ≡ event = cc e in rw (sym same) d
others Rot sheet event e d = behind (identifier_in sheet.prefixes) event e
  where
    behind : (found : Option Prefix) (event : PlannedEvent) → option_map (λ prefix. Rotation prefix) found ≡ Some event → HasDelegator (plan_of Rot sheet) event
    behind None event e = cc
    behind (Some prefix) event e = let same : Rotation prefix ≡ event = cc e in rw (sym same) tt
others Drt sheet event e d = behind (identifier_in sheet.prefixes) event e
  where
    behind : (found : Option Prefix) (event : PlannedEvent) → option_map (λ prefix. Rotation prefix) found ≡ Some event → HasDelegator (plan_of Drt sheet) event
    behind None event e = cc
    behind (Some prefix) event e = let same : Rotation prefix ≡ event = cc e in rw (sym same) tt
others Ixn sheet event e d = behind (identifier_in sheet.prefixes) event e
  where
    behind : (found : Option Prefix) (event : PlannedEvent) → option_map (λ prefix. Interaction prefix) found ≡ Some event → HasDelegator (plan_of Ixn sheet) event
    behind None event e = cc
    behind (Some prefix) event e = let same : Interaction prefix ≡ event = cc e in rw (sym same) tt

pub makeable : (text : List ℕ) (plan : EventPlan) → IsPlanText text plan → IsMakeable plan
makeable text plan is =
    let good = good_lines is.kind is.entries is.good.lines [] is.good.spelled in
    let same = is.is.plan_is in
    record {
      anchors = subst (λ p. AllByRecursion IsJson p.anchors) (sym same) (seals_are_json is.entries good);
      traits = subst (λ p. AllByRecursion IsString p.traits) (sym same) (traits_are_strings is.entries good);
      delegator = subst (λ p. HasDelegator p plan.event) (sym same) (others is.kind (sheet_of is.entries) plan.event is.is.event is.is.delegator);
    }
