use Rattle.std.proofs.Common.{sym, subst}
use Rattle.cesr_stream.specs.Begun.{MayBeBegun}
use Rattle.cesr_stream.specs.Front.{begun_group}
use Rattle.cesr_stream.proofs.StopLemmas.{halts}
use Rattle.cesr_stream.proofs.begun_wrap.read_wrapped.Goals as goal

pub returns-in-Err-clause-err : goal.returns-in-Err-clause-err
returns-in-Err-clause-err c = halts c.args.bytes.now (begun_group c.args.room c.args.bytes.now) c.in-Err.stop (c.in-Err.ensures.err c.args.room)

pub read-requires : goal.read-requires
read-requires c = (c.in-Ok.ensures.ok c.args.room (subst (λ b. MayBeBegun c.args.room c.args.bytes.now b) (sym c.take.ensures.value) c.requires)).group
