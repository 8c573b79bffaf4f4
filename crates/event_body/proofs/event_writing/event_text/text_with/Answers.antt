use Rattle.std.proofs.Common.{sym, subst}
use Rattle.event_body.specs.EventWriting.Writable.{IsWritable}
use Rattle.event_body.proofs.EventWritingLemmas.OwnDigest.{still_writable}
use Rattle.event_body.proofs.event_writing.event_text.text_with.Goals as goal

pub event_text-requires-clause-writable : goal.event_text-requires-clause-writable
event_text-requires-clause-writable c = subst IsWritable (sym c.in_ok-sealed.ensures) (still_writable c.args.said c.args.event.now c.requires)
