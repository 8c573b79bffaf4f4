use Rattle.std.proofs.Common.{◌≡◌, length, take}
use Rattle.export_core.specs.ExportLaws.Export.{exported}
use Rattle.validator_core.specs.ValidatorCore.View.{accepted_by}
use Rattle.export_core.specs.ExportCore.Exported.{HasSigners, messages_at}
use Rattle.export_core.specs.ExportCore.Messages.{IsExportText}
use Rattle.export_core.proofs.export_core.exported_events.exported_of.Given as goal

-- the events so far are put and counted, and the table has what is behind them
abbrev pub invariant-loop-place : goal.invariant-loop-place
invariant-loop-place l = record {
  text : IsExportText (messages_at l.fn.core l.family.keys (take l.place (accepted_by l.fn.core))) l.text.bytes.items;
  count : l.count ≡ length (exported l.family.keys (take l.place (accepted_by l.fn.core)));
  signers : HasSigners l.family.keys (take l.place (accepted_by l.fn.core)) l.signers;
}
