use Rattle.std.proofs.Common.{◌≡◌, []}
use Rattle.validator_core.specs.ValidatorCore.Verdicts.{Asks}
use Rattle.validator_core.specs.ValidatorCore.View.{unheard_of}
use Rattle.witness_core.specs.WitnessStore.Histories.{history_of}
use Rattle.witness_core.specs.WitnessStore.Storing.{AreStored, GoesOn}
use Rattle.witness_core.proofs.witness_store.open_questions.ask_open.Given as goal

-- all is stored, verdicts alone were heard, and neither the disk nor the verifier has failed
abbrev pub invariant-loop-question : goal.invariant-loop-question
invariant-loop-question g l = record {
  stored : AreStored (history_of l.core) l.shelf.list l.shelf.limits l.shelf.broken (g.D.Disk.shown l.shelf.disk) l.room;
  goes_on : GoesOn l.fn.shelf.list (g.D.Disk.shown l.fn.shelf.disk) (history_of l.core) l.shelf.list (g.D.Disk.shown l.shelf.disk);
  same_limits : l.shelf.limits ≡ l.fn.shelf.limits;
  asks : Asks (g.V.Verifier.says l.fn.verifier) (g.V.Verifier.inquiries l.fn.verifier) (g.V.Verifier.inquiries l.verifier) l.fn.core l.core [];
  same : g.V.Verifier.says l.verifier ≡ g.V.Verifier.says l.fn.verifier;
  disk_same : (g.D.Disk.shown l.shelf.disk).faults ≡ (g.D.Disk.shown l.fn.shelf.disk).faults;
  verifier_same : g.V.Verifier.faults l.verifier ≡ g.V.Verifier.faults l.fn.verifier;
}

abbrev pub decreases-loop-question : goal.decreases-loop-question
decreases-loop-question g l = unheard_of l.core
