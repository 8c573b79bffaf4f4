use Rattle.std.proofs.Common.{refl, inl, inr}
use Rattle.validator_core.proofs.validator_core.base.event_of.Goals as goal

pub fitting-requires-clause-held : goal.fitting-requires-clause-held
fitting-requires-clause-held c = record { spelled = rw (← c.as_slice.ensures) c.in-Ok.ensures.judged.1; few = rw (← c.as_slice.ensures) c.in-Ok.ensures.judged.0 }

pub returns-in-Err-Fault-clause-err : goal.returns-in-Err-Fault-clause-err
returns-in-Err-Fault-clause-err c =
    let is = c.in-Err-Fault.field-0-is in
    rw c.no_log.ensures (
      refl,
      λ event read. elim (c.in-Err-Fault.ensures.whole event (rw c.as_slice.ensures read.0) (rw c.as_slice.ensures read.1)) [
        | inl e ↦ cc
        | inr e ↦ cc
      ],
    )
