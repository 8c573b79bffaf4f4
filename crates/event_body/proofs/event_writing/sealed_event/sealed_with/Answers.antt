use Rattle.std.proofs.Common.{sym, subst}
use Rattle.event_body.specs.EventWriting.Writable.{IsWritable}
use Rattle.event_body.proofs.EventWritingLemmas.OwnDigest.{still_writable}
use Rattle.event_body.proofs.event_writing.sealed_event.sealed_with.Goals as goal

pub write_body-requires : goal.write_body-requires
write_body-requires c = subst IsWritable (sym c.in_ok-sealed.ensures) (still_writable c.args.said c.args.event.now c.requires)
