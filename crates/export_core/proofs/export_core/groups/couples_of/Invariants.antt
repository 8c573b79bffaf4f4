use Rattle.std.proofs.Common.{◌≡◌, ◌≤◌, length, map, take}
use Rattle.std.specs.Prelude.{All, filter}
use Rattle.cesr_stream.specs.Written.{IsCouple}
use Rattle.export_core.specs.ExportLaws.Export.{is_couple}
use Rattle.export_core.specs.ExportCore.Messages.{claim_of}
use Rattle.export_core.proofs.export_core.groups.couples_of.Given as goal

-- those of the claims so far are found
abbrev pub invariant-loop-claim : goal.invariant-loop-claim
invariant-loop-claim l = record {
  are : map claim_of l.couples.items ≡ filter is_couple (take l.claim-index l.claims);
  few : length l.couples.items ≤ l.claim-index;
  raw : All IsCouple l.couples.items;
}
