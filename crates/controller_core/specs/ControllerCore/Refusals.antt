-- Why no message is made of a plan.
use Rattle.std.specs.Prelude.{◌≡◌, ℕ, false, List, Option, Some, Result, Ok, Err}
use Rattle.std.specs.Option.{IsSomeAnd}
use Rattle.lists.specs.KeriSpecs.Causes.{Rose}
use Rattle.event_body.specs.declared.event_body.event.Event.{Event}
use Rattle.event_body.specs.EventBody.Judging.{IsFirstFault}
use Rattle.key_state.specs.KeyStates.{misfit}
use Rattle.key_state.specs.States.{State}
use Rattle.controller_core.specs.declared.controller_core.plan_fault.PlanFault.{PlanFault}
use Rattle.controller_core.specs.declared.controller_core.plan_fault.PlanFault.TheVariants.{Body, Misfit, Unsigned, SignerFault, OutOfMemory}
use Rattle.controller_core.specs.declared.controller_core.slot.Slot.{Slot}
use Rattle.controller_core.specs.ControllerCore.Messages.{event_text, IsWhole, Follows, IsSignable}
use Rattle.controller_core.specs.ControllerCore.Slots.{are_enough}

-- The first that is so of the event behind a state: its text is no body, by this first fault; it doesn't follow the state,
-- by this first misfit; the slots aren't enough; or the signer failed. Or there was no memory.
abbrev pub IsRefusal : Option State → Event → List Slot → PlanFault → Type 0
IsRefusal s e slots (Body fault) = IsFirstFault (event_text e) fault
IsRefusal s e slots (Misfit fault) = IsWhole e × IsSomeAnd s (λ state. misfit state e ≡ Some fault)
IsRefusal s e slots Unsigned = IsWhole e × Follows s e × (are_enough s e slots ≡ false)
IsRefusal s e slots SignerFault = IsSignable s e slots
IsRefusal s e slots OutOfMemory = Unit {0}

-- the signer's count of faults rose where the signer failed, and else stays
abbrev pub CountsSignerFaults : {T : Type 0} → ℕ → ℕ → Result T PlanFault → Type 0
CountsSignerFaults before now (Ok value) = now ≡ before
CountsSignerFaults before now (Err SignerFault) = Rose before now
CountsSignerFaults before now (Err (Body fault)) = now ≡ before
CountsSignerFaults before now (Err (Misfit fault)) = now ≡ before
CountsSignerFaults before now (Err Unsigned) = now ≡ before
CountsSignerFaults before now (Err OutOfMemory) = now ≡ before
