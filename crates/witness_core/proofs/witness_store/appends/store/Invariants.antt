use Rattle.std.proofs.Common.{◌-◌, length}
use Rattle.validator_core.specs.ValidatorCore.View.{accepted_by}
use Rattle.witness_core.specs.WitnessStore.Histories.{history_of}
use Rattle.witness_core.proofs.WitnessStoreLemmas.Stored.{IsStoring}
use Rattle.witness_core.proofs.witness_store.appends.store.Given as goal

-- some of the payloads are stored
abbrev pub invariant-loop-alloc : goal.invariant-loop-alloc
invariant-loop-alloc g l = IsStoring (history_of l.core) l.fn.shelf.list l.shelf.list (g.D.Disk.shown l.fn.shelf.disk) (g.D.Disk.shown l.shelf.disk) l.fn.shelf.limits l.shelf.limits l.shelf.broken l.room

-- the others are left
abbrev pub decreases-loop-alloc : goal.decreases-loop-alloc
decreases-loop-alloc g l = length (accepted_by l.core) - length l.shelf.list
