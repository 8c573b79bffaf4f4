use Rattle.cesr_stream.proofs.Characters.{turnable_group}
use Rattle.cesr_stream.proofs.write.write_in_domain.Goals as goal

pub put_counted-requires-clause-turnable : goal.put_counted-requires-clause-turnable
put_counted-requires-clause-turnable g c = turnable_group
