-- Which event a plan asks for, and behind which state.
use Rattle.std.specs.Prelude.{◌≡◌, ◌+◌, ◌-◌, ◌^◌, ◌<◌, Bool, false, [], ⊤, Option, Some, None, if◌then◌else◌}
use Rattle.std.specs.Option.{option_map}
use Rattle.cesr_codes.specs.declared.prefix.Prefix.{Prefix}
use Rattle.event_body.specs.declared.event_body.event.Event.{Event}
use Rattle.key_state.specs.Heads.{head_sn}
use Rattle.key_state.specs.States.{State}
use Rattle.validator_core.specs.ValidatorCore.View.{CoreView, state_of}
use Rattle.controller_core.specs.ControllerCore.Plans.{sealed_inception, sealed_interaction, sealed_rotation}
use Rattle.controller_core.specs.declared.plan_text.event_plan.EventPlan.{EventPlan}
use Rattle.controller_core.specs.declared.plan_text.event_plan.PlannedEvent.{PlannedEvent}
use Rattle.controller_core.specs.declared.plan_text.event_plan.PlannedEvent.TheVariants.{Inception, Rotation, Interaction}
use Rattle.keri_roles.specs.declared.plan_answer.read_log.ReadLog.{ReadLog}

-- what a core was told of a log, by which alone its states are known, and whether a message of it or its stream was refused
pub record LogTold : Type 0 where
  pub core : CoreView
  pub is_refused : Bool

abbrev pub log_told : ReadLog → LogTold
log_told log = record { core = record log.core.now { accepted = [] }; is_refused = log.is_refused }

-- an event, with the digest of its own text, and the state that it is to follow, where it is no inception
pub record Asked : Type 0 where
  pub state : Option State
  pub event : Event

abbrev pub behind : (State → Event) → State → Asked
behind event state = record { state = Some state; event = event state }

-- the log's state of the identifier, where there is a log
abbrev pub state_in : Option LogTold → Prefix → Option State
state_in None prefix = None
state_in (Some log) prefix = state_of log.core prefix

-- an inception needs no log; what follows needs one with a state of the identifier
abbrev pub asked_behind : Option LogTold → EventPlan → PlannedEvent → Option Asked
asked_behind log plan Inception = Some (record { state = None; event = sealed_inception plan.plan })
asked_behind log plan (Rotation prefix) = option_map (behind (λ s. sealed_rotation s plan.plan)) (state_in log prefix)
asked_behind log plan (Interaction prefix) = option_map (behind (λ s. sealed_interaction s plan.plan)) (state_in log prefix)

abbrev pub is_refused : Option LogTold → Bool
is_refused None = false
is_refused (Some log) = log.is_refused

-- the event that the plan asks for; of a log that is refused no event is made
abbrev pub asked : Option LogTold → EventPlan → Option Asked
asked log plan = if is_refused log then None else asked_behind log plan plan.event

-- there is a number for the event; or the state's head has the greatest of all
abbrev pub HasNumber : Option State → Type 0
HasNumber None = ⊤
HasNumber (Some s) = head_sn s + 1 < 2 ^ 64

abbrev pub IsPastLast : Option State → Type 0
IsPastLast None = ⊥
IsPastLast (Some s) = head_sn s ≡ 2 ^ 64 - 1
