use Rattle.cesr_stream.proofs.Characters.{turnable_indexed, turnable_couple, turnable_seen, turnable_anchor}
use Rattle.cesr_stream.proofs.write.GroupWritable.put.Goals as goal

pub put_counted-requires-clause-turnable : goal.put_counted-requires-clause-turnable
put_counted-requires-clause-turnable g c = turnable_indexed

pub put_counted-requires-in-Witness-clause-turnable : goal.put_counted-requires-in-Witness-clause-turnable
put_counted-requires-in-Witness-clause-turnable g c = turnable_indexed

pub put_counted-requires-in-Couples-clause-turnable : goal.put_counted-requires-in-Couples-clause-turnable
put_counted-requires-in-Couples-clause-turnable g c = turnable_couple

pub put_counted-requires-in-FirstSeen-clause-turnable : goal.put_counted-requires-in-FirstSeen-clause-turnable
put_counted-requires-in-FirstSeen-clause-turnable g c = turnable_seen

pub put_counted-requires-in-Anchor-clause-turnable : goal.put_counted-requires-in-Anchor-clause-turnable
put_counted-requires-in-Anchor-clause-turnable g c = turnable_anchor
