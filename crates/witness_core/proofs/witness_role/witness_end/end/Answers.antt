use Rattle.std.proofs.Common.{refl, rules}
use Rattle.witness_core.proofs.WitnessRoleLemmas.ServedFile.{as_it_reads}
use Rattle.witness_core.proofs.witness_role.witness_end.end.Goals as goal

pub returns-clause-ends : goal.returns-clause-ends
returns-clause-ends g c = λ before after. record {
  all = refl;
  back = search rules;
  bodies = c.into_parts-journal.ensures.bodies;
  entries = c.into_parts-journal.ensures.entries;
  status = rw c.as_slice.ensures.value at c.status_closing-status.ensures;
  stand = c.into_parts-journal.ensures.stand;
  reads = λ whole. as_it_reads _ _ _ (g.met.O.Disk.Disk.reads_an_image c.args.witness.shelf.disk) (c.into_parts-journal.ensures.stand whole);
}
