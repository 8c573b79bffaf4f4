use Rattle.std.proofs.Common.{length}
use Rattle.std.specs.Prelude.{All}
use Rattle.export_core.specs.ExportCore.Messages.{IsFixed}
use Rattle.export_core.proofs.ExportCoreLemmas.Runs.{IsLeft}
use Rattle.export_core.proofs.export_core.messages.put_runs.Given as goal

-- what is left has keys that can't be rotated, and with its messages those of all are put
abbrev pub invariant-loop-left : goal.invariant-loop-left
invariant-loop-left l = record {
  fixed : All IsFixed l.left;
  puts : IsLeft l.fn.bytes l.fn.first l.fn.rest l.fn.text.bytes.items l.left l.text.bytes.items;
}

abbrev pub decreases-loop-left : goal.decreases-loop-left
decreases-loop-left l = length l.left
