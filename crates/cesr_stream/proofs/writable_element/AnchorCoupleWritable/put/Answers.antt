use Rattle.std.proofs.Common.{sym, subst}
use Rattle.cesr_stream.specs.Domains.{IsTurnable}
use Rattle.cesr_stream.proofs.Characters.{turnable_number, turnable_digest}
use Rattle.cesr_stream.proofs.writable_element.AnchorCoupleWritable.put.Goals as goal

pub put_both-requires-clause-turnable : goal.put_both-requires-clause-turnable
put_both-requires-clause-turnable g c = subst IsTurnable (sym c.write.ensures) (turnable_number c.args.self.now.number)

pub put_both-requires-clause-turnable_behind : goal.put_both-requires-clause-turnable_behind
put_both-requires-clause-turnable_behind g c = subst IsTurnable (sym c.write-2.ensures) (turnable_digest c.args.self.now.digest)
