-- Plans, and the texts that spell them.
use Rattle.std.specs.Prelude.{◌≡◌, ℕ, List, [], ◌∷◌, Bool, true, false, Option, Some, None, is_some}
use Rattle.std.specs.Option.{option_map}
use Rattle.cesr_codes.specs.declared.digest.DigestCode.TheVariants.{Blake3}
use Rattle.cesr_codes.specs.declared.prefix.Prefix.{Prefix}
use Rattle.sith.specs.declared.threshold.Threshold.{Threshold}
use Rattle.sith.specs.declared.threshold.Threshold.TheVariants.{Count}
use Rattle.controller_core.specs.declared.controller_core.plan.Plan.{Plan}
use Rattle.controller_core.specs.declared.plan_text.kind.Kind.{Kind}
use Rattle.controller_core.specs.declared.plan_text.kind.Kind.TheVariants.{Icp, Dip, Rot, Drt, Ixn}
use Rattle.controller_core.specs.declared.plan_text.given_prefix.GivenPrefix.{GivenPrefix}
use Rattle.controller_core.specs.declared.plan_text.given_prefix.GivenPrefix.TheVariants.{Said, Basic, Of}
use Rattle.controller_core.specs.declared.plan_text.entry.Entry.{Entry}
use Rattle.controller_core.specs.declared.plan_text.event_plan.EventPlan.{EventPlan}
use Rattle.controller_core.specs.declared.plan_text.event_plan.PlannedEvent.{PlannedEvent}
use Rattle.controller_core.specs.declared.plan_text.event_plan.PlannedEvent.TheVariants.{Inception, Rotation, Interaction}
use Rattle.controller_core.specs.PlanText.Lines.{HasLine}
use Rattle.controller_core.specs.PlanText.Entries.{kind_line, AreLines}
use Rattle.controller_core.specs.PlanText.Promises.{PromisesNewKeys}
use Rattle.controller_core.specs.PlanText.Sheets.{Sheet, IsOnce, sheet_of}

-- the value that a line gives, or this one where none does
abbrev pub first_or : {A : Type 0} → A → List A → A
first_or value [] = value
first_or value (first ∷ others) = first

abbrev pub first_of : {A : Type 0} → List A → Option A
first_of [] = None
first_of (first ∷ others) = Some first

abbrev pub is_basic : GivenPrefix → Bool
is_basic Said = false
is_basic Basic = true
is_basic (Of prefix) = false

abbrev pub is_delegated : Kind → Bool
is_delegated Icp = false
is_delegated Dip = true
is_delegated Rot = false
is_delegated Drt = true
is_delegated Ixn = false

-- a threshold of one key, or of none where there are no next keys
abbrev pub default_threshold : {A : Type 0} → List A → Threshold
default_threshold [] = Count 0
default_threshold (first ∷ others) = Count 1

-- what the lines say, with the values that stand for those that no line gives
abbrev pub plan_of : Kind → Sheet → Plan
plan_of kind sheet = record {
  delegated = is_delegated kind;
  code = first_or Blake3 sheet.digest_codes;
  basic = is_basic (first_or Said sheet.prefixes);
  kt = first_or (Count 1) sheet.kts;
  keys = sheet.keys;
  nt = first_or (default_threshold sheet.nexts) sheet.nts;
  next = sheet.nexts;
  toad = first_or 0 sheet.toads;
  cuts = sheet.cuts;
  adds = sheet.adds;
  traits = sheet.traits;
  anchors = sheet.seals;
  delegator = first_of sheet.delegators;
  signers = sheet.slots;
}

abbrev pub identifier_in : List GivenPrefix → Option Prefix
identifier_in [] = None
identifier_in (Said ∷ others) = None
identifier_in (Basic ∷ others) = None
identifier_in (Of prefix ∷ others) = Some prefix

-- an inception needs no prefix, and each other event has that of its identifier
abbrev pub event_of : Kind → List GivenPrefix → Option PlannedEvent
event_of Icp given = Some Inception
event_of Dip given = Some Inception
event_of Rot given = option_map (λ prefix. Rotation prefix) (identifier_in given)
event_of Drt given = option_map (λ prefix. Rotation prefix) (identifier_in given)
event_of Ixn given = option_map (λ prefix. Interaction prefix) (identifier_in given)

-- a delegated inception names its delegator, and no other event does
abbrev pub has_delegator : Kind → Bool
has_delegator Icp = false
has_delegator Dip = true
has_delegator Rot = false
has_delegator Drt = false
has_delegator Ixn = false

-- the lines of a plan of this kind say all that is wanted, and the plan is what they say
pub record IsEventPlan (kind : Kind) (sheet : Sheet) (plan : EventPlan) : Type 0 where
  pub event : event_of kind sheet.prefixes ≡ Some plan.event
  pub delegator : is_some (first_of sheet.delegators) ≡ has_delegator kind
  pub plan_is : plan.plan ≡ plan_of kind sheet

-- the text's first line names the kind, and the rest stands behind it
abbrev pub BeginsWith : Kind → List ℕ → List ℕ → Type 0
BeginsWith kind text rest = HasLine text (kind_line kind) rest

-- The text is the kind's line and lines that spell entries, of which each name that isn't of a list comes at most once.
pub record IsGoodText (text : List ℕ) (kind : Kind) (entries : List Entry) : Type 0 where
  pub lines : List ℕ
  pub begins : BeginsWith kind text lines
  pub spelled : AreLines kind entries lines []
  pub once : IsOnce (sheet_of entries)

-- the text spells the plan, and no line promises a key that it has already, unless one that allows it stands before
pub record IsPlanText (text : List ℕ) (plan : EventPlan) : Type 0 where
  pub kind : Kind
  pub entries : List Entry
  pub good : IsGoodText text kind entries
  pub fresh : PromisesNewKeys (sheet_of entries)
  pub is : IsEventPlan kind (sheet_of entries) plan
