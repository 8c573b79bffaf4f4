use Rattle.std.proofs.Common.{◌≡◌, ◌≤◌, length, map, take}
use Rattle.std.specs.Prelude.{All, filter}
use Rattle.cesr_codes.specs.Indexed.{IsIndexed}
use Rattle.journal.specs.declared.journal.claim.Claim.TheVariants.{Witness}
use Rattle.export_core.specs.ExportLaws.Export.{is_witness}
use Rattle.export_core.proofs.export_core.groups.witness_sigs.Given as goal

-- those of the claims so far are found
abbrev pub invariant-loop-claim : goal.invariant-loop-claim
invariant-loop-claim l = record {
  are : map (λ s. Witness s) l.sigs.items ≡ filter is_witness (take l.claim-index l.claims);
  few : length l.sigs.items ≤ l.claim-index;
  raw : All IsIndexed l.sigs.items;
}
