-- What is asked of a plan of which a message is made.
use Rattle.std.specs.Prelude.{◌≡◌, ⊤, is_some}
use Rattle.std.specs.List.{AllByRecursion}
use Rattle.json_tree.specs.Spelling.{IsJson}
use Rattle.json_tree.specs.Strings.{IsString}
use Rattle.controller_core.specs.declared.controller_core.plan.Plan.{Plan}
use Rattle.controller_core.specs.declared.plan_text.event_plan.EventPlan.{EventPlan}
use Rattle.controller_core.specs.declared.plan_text.event_plan.PlannedEvent.{PlannedEvent}
use Rattle.controller_core.specs.declared.plan_text.event_plan.PlannedEvent.TheVariants.{Inception, Rotation, Interaction}

-- a delegated inception alone names its delegator
abbrev pub HasDelegator : Plan → PlannedEvent → Type 0
HasDelegator plan Inception = is_some plan.delegator ≡ plan.delegated
HasDelegator plan (Rotation prefix) = ⊤
HasDelegator plan (Interaction prefix) = ⊤

-- the anchors and the traits are of JSON's grammar
pub record IsMakeable (plan : EventPlan) : Type 0 where
  pub anchors : AllByRecursion IsJson plan.plan.anchors
  pub traits : AllByRecursion IsString plan.plan.traits
  pub delegator : HasDelegator plan.plan plan.event
