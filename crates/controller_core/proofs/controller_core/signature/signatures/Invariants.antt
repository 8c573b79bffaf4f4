use Rattle.std.proofs.Common.{◌≡◌, take}
use Rattle.std.specs.List.{AllZip}
use Rattle.lists.specs.KeriSpecs.Shown.{after}
use Rattle.controller_core.specs.ControllerCore.Messages.{IsInSlot}
use Rattle.controller_core.specs.ControllerCore.Signings.{signings_in}
use Rattle.controller_core.proofs.controller_core.signature.signatures.Given as goal

-- each slot so far has its signature, for which alone the signer was asked, and no signing failed
pub record Invariant (zipped gives asked faults : Type 0) : Type 0 where
  pub sigs : zipped
  pub gives_same : gives
  pub asked_so_far : asked
  pub faults_same : faults

abbrev pub invariant-loop-slot : goal.invariant-loop-slot
invariant-loop-slot g l = Invariant
    (AllZip (IsInSlot (g.S.Signer.gives l.initial.signer) l.keys l.body) (take l.slot-index l.slots) l.sigs)
    (g.S.Signer.gives l.signer ≡ g.S.Signer.gives l.initial.signer)
    (g.S.Signer.signings l.signer ≡ after (g.S.Signer.signings l.initial.signer) (signings_in l.keys l.body (take l.slot-index l.slots)))
    (g.S.Signer.faults l.signer ≡ g.S.Signer.faults l.initial.signer)
