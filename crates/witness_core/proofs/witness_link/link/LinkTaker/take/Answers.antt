use Rattle.std.proofs.Common.{refl}
use Rattle.witness_core.proofs.WitnessLinkLemmas.Handing.{takes_err, takes_ok}
use Rattle.witness_core.proofs.witness_link.link.LinkTaker.take.Goals as goal

pub returns-clause-ok : goal.returns-clause-ok
returns-clause-ok g c = takes_ok g.W.Witnessing.seen g.K.Sink.written g.K.Sink.faults c.args.message c.args.self.now _
    (record { service = refl; sink = refl; notes = refl }) c.serve.result c.serve.ensures

pub returns-clause-err : goal.returns-clause-err
returns-clause-err g c = takes_err g.W.Witnessing.seen g.K.Sink.written g.K.Sink.faults c.args.message c.args.self.now _
    (record { service = refl; sink = refl; notes = refl }) c.serve.result c.serve.ensures
