use Rattle.keri_outside.specs.Shown.{source_shown}
use Rattle.witness_core.proofs.WitnessLinkLemmas.Closed.{lent_same, link_closed}
use Rattle.witness_core.proofs.WitnessLinkLemmas.Handing.{taken_none}
use Rattle.witness_core.proofs.witness_link.service.serve_all.Goals as goal

pub feed_messages-close-requires : goal.feed_messages-close-requires
feed_messages-close-requires g c =
    let sound = c.sound.ensures c.requires in
    record {
      none_taken = taken_none g.W.Witnessing.seen g.K.Sink.written g.K.Sink.faults c.args.link.now
          (record { whole = c.requires; listed = sound.listed; read = sound.read; starts = sound.starts }) sound.stand sound.lawful (g.met.W.Witnessing.only_now c.args.link.now.service.now);
    }

pub returns-clause-serves : goal.returns-clause-serves
returns-clause-serves g c =
    link_closed g.W.Witnessing.seen g.K.Sink.written g.K.Sink.faults c.args.limits
    (source_shown g.S.Source.left g.S.Source.faults c.args.source.now) (source_shown g.S.Source.left g.S.Source.faults c.feed_messages-close.new.source)
    c.args.link.now c.feed_messages-close.new.taker c.finish.new.link c.feed_messages-close.result.0 c.finish.result c.feed_messages-close.result.1
    c.feed_messages-close.ensures.feeds c.finish.ensures

pub returns-clause-same : goal.returns-clause-same
returns-clause-same g c =
    lent_same g.W.Witnessing.seen g.K.Sink.written g.K.Sink.faults c.args.limits
    (source_shown g.S.Source.left g.S.Source.faults c.args.source.now) (source_shown g.S.Source.left g.S.Source.faults c.feed_messages-close.new.source)
    c.args.link.now c.feed_messages-close.new.taker c.finish.new.link c.feed_messages-close.result.0 c.finish.result c.feed_messages-close.result.1
    c.feed_messages-close.ensures.feeds c.finish.ensures
