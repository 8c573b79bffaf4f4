use Rattle.std.proofs.Common.{◌≡◌, ◌<◌, ◌++◌, length, drop}
use Rattle.std.specs.Prelude.{All}
use Rattle.journal.specs.Journal.Journals.{chosen}
use Rattle.validator_core.specs.ValidatorCore.View.{accepted_by}
use Rattle.witness_core.specs.WitnessReceipts.Receipts.{listed}
use Rattle.witness_core.proofs.witness_receipts.receipts.listed_since.Given as goal

-- those so far, and those that are left
abbrev pub invariant-loop-place : goal.invariant-loop-place
invariant-loop-place l = record {
  those : chosen l.core.held l.numbers.items ++ listed l.key (accepted_by l.core) (drop l.place (accepted_by l.core))
      ≡ listed l.key (accepted_by l.core) (drop l.front (accepted_by l.core));
  held : All (λ n. n < length l.core.held) l.numbers.items;
}
