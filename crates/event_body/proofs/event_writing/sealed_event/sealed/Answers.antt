use Rattle.event_body.specs.EventWriting.Sealed.{sealed_event}
use Rattle.event_body.proofs.EventWritingLemmas.OwnDigest.{answered_whole}
use Rattle.event_body.proofs.event_writing.sealed_event.sealed.Goals as goal

pub returns-clause-whole : goal.returns-clause-whole
returns-clause-whole c = answered_whole (sealed_event c.args.code c.args.event.now) c.seal.result c.seal.ensures.sealed c.seal.ensures.fault
