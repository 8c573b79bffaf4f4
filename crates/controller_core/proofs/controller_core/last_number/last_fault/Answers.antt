use Rattle.std.proofs.Common.{◌∙◌, subst}
use Rattle.controller_core.specs.ControllerCore.LastNumbers.{IsLastRefusal}
use Rattle.controller_core.specs.ControllerCore.Messages.{event_text}
use Rattle.controller_core.specs.ControllerCore.Plans.{sealed}
use Rattle.controller_core.proofs.controller_core.last_number.last_fault.Goals as goal

pub returns-in-Ok : goal.returns-in-Ok
unfolding sealed event_text
returns-in-Ok c = subst (λ text. IsLastRefusal text c.text_fault.result) (c.deref.ensures.value ∙ c.in-Ok.ensures.text) c.text_fault.ensures
