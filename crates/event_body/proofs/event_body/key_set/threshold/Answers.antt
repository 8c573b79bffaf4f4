use Rattle.std.proofs.Common.{arith}
use Rattle.sith.proofs.ThresholdValues.{value_of_read}
use Rattle.event_body.proofs.EventBodyLemmas.Values.{no_threshold}
use Rattle.event_body.proofs.event_body.key_set.threshold.Goals as goal

pub returns-in-Err-2-clause-fault : goal.returns-in-Err-2-clause-fault
returns-in-Err-2-clause-fault c =
    no_threshold c.args.value.now c.args.members.now c.read.result c.in-Err.fault c.in-Err.is (λ is. let yes = c.is_out_of_memory.ensures.1 is in cc (yes, c.if-is_out_of_memory.false)) c.read.ensures.only

pub returns-in-Ok-clause-value : goal.returns-in-Ok-clause-value
returns-in-Ok-clause-value c = value_of_read c.in-Ok.threshold c.args.value.now _ c.in-Ok.ensures.spelled c.in-Ok.ensures.read.0 (omega (arith, c.requires))
