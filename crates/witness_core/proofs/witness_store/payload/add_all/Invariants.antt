use Rattle.std.proofs.Common.{◌≡◌, [], take, slice_get, Some}
use Rattle.journal_views.specs.EventPayload.Holding.{HasKept}
use Rattle.journal_views.specs.EventPayload.Kept.{state_under}
use Rattle.journal.specs.declared.journal.body.Body.{Body}
use Rattle.validator_core.specs.ValidatorCore.View.{accepted_by}
use Rattle.witness_core.proofs.witness_store.payload.add_all.Given as goal

-- the signatures so far were added
abbrev pub invariant-loop-sig : goal.invariant-loop-sig
invariant-loop-sig l = (b : Body) → slice_get (accepted_by l.core) l.place ≡ Some b → HasKept (state_under (accepted_by l.core) b) b.event [] l.fn.kept
    → HasKept (state_under (accepted_by l.core) b) b.event (take l.sig-index l.sigs) l.kept
