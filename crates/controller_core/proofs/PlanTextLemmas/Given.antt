-- What a reader answers for a value that is spelled.
use Rattle.std.proofs.Common.{◌≡◌, Ok, Err, inl, inr}
use Rattle.controller_core.specs.declared.plan_text.line_fault.LineFault.{LineFault}
use Rattle.controller_core.specs.declared.plan_text.line_fault.LineFault.TheVariants.{OutOfMemory}
use Rattle.controller_core.specs.PlanText.Reading.{Gives}

pub same_given : {A : Type 0} (found value : A) → Gives (Ok found) value → value ≡ found
same_given found value (inl is) = cc
same_given found value (inr none) = cc

pub fault_given : {A : Type 0} (fault : LineFault) (value : A) → Gives (Err fault) value → fault ≡ OutOfMemory
fault_given fault value (inl is) = cc
fault_given fault value (inr none) = cc
