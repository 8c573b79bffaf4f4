-- The export of an identifier.
use Rattle.std.specs.Prelude.{◌≡◌, ℕ, Bool, true, false, List, codes}
use Rattle.std.specs.List.{list_any}
use Rattle.cesr_codes.specs.declared.prefix.Prefix.{Prefix}
use Rattle.export_core.specs.ExportCore.Export.{IsExport}
use Rattle.journal.specs.Journal.Logs.{is_of}
use Rattle.run_status.specs.RunStatus.Readers.{Reader}
use Rattle.validator_core.specs.ValidatorCore.View.{CoreView, accepted_by}

-- the line of an identifier of which no event is accepted
abbrev pub unknown_text : List ℕ
unknown_text = codes "unknown\n"

-- the text is the export of an identifier, however the readers closed; or where no event of it is accepted it is that line
abbrev pub ExportsTo : Prefix → CoreView → List Reader → List ℕ → Bool → Type 0
ExportsTo prefix core readers text false = (count : ℕ) × IsExport core prefix text count
ExportsTo prefix core readers text true = (list_any (is_of prefix) (accepted_by core) ≡ false) × (text ≡ unknown_text)
