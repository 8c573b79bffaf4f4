use Rattle.std.proofs.Common.{◌≡◌, take}
use Rattle.std.specs.Prelude.{flat_map}
use Rattle.lists.specs.KeriSpecs.Shown.{after}
use Rattle.journal.specs.Journal.Journals.{chosen}
use Rattle.witness_core.specs.WitnessReceipts.Receipts.{AreReceiptsOf}
use Rattle.witness_core.proofs.WitnessReceiptsLemmas.Signings.{signing_at}
use Rattle.witness_core.proofs.witness_receipts.receipts.signed.Given as goal

-- each number so far has its receipt, for which alone the signer was asked, and no signing failed
pub record Invariant (receipts gives asked faults : Type 0) : Type 0 where
  pub receipts_are : receipts
  pub gives_same : gives
  pub asked_so_far : asked
  pub faults_same : faults

abbrev pub invariant-loop-number : goal.invariant-loop-number
invariant-loop-number g l = Invariant
    (AreReceiptsOf (g.S.Signer.gives l.initial.signer) l.key (chosen l.core.held (take l.number-index l.numbers)) l.receipts.items)
    (g.S.Signer.gives l.signer ≡ g.S.Signer.gives l.initial.signer)
    (g.S.Signer.signings l.signer ≡ after (g.S.Signer.signings l.initial.signer) (flat_map (signing_at l.key l.core.held) (take l.number-index l.numbers)))
    (g.S.Signer.faults l.signer ≡ g.S.Signer.faults l.initial.signer)
