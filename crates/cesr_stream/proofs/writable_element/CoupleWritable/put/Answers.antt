use Rattle.std.proofs.Common.{sym, subst}
use Rattle.cesr_stream.specs.Domains.{IsTurnable}
use Rattle.cesr_stream.proofs.Characters.{turnable_key, turnable_sig}
use Rattle.cesr_stream.proofs.writable_element.CoupleWritable.put.Goals as goal

pub put_both-requires-clause-turnable : goal.put_both-requires-clause-turnable
put_both-requires-clause-turnable g c = subst IsTurnable (sym c.write.ensures) (turnable_key c.args.self.now.key)

pub put_both-requires-clause-turnable_behind : goal.put_both-requires-clause-turnable_behind
put_both-requires-clause-turnable_behind g c = subst IsTurnable (sym c.write-2.ensures) (turnable_sig c.args.self.now.sig)
