-- An export, and what a fresh validator makes of it.
use Rattle.std.specs.Prelude.{◌≡◌, ℕ, true, List, [], length, Contains}
use Rattle.std.specs.List.{list_any}
use Rattle.cesr_codes.specs.declared.prefix.Prefix.{Prefix}
use Rattle.claim_table.specs.CoreLaws.Standing.{HasNoClash}
use Rattle.export_core.specs.ExportCore.Messages.{IsExportText}
use Rattle.export_core.specs.ExportCore.Reading.{ReadsAs}
use Rattle.export_core.specs.ExportCore.Retelling.{ReadsAlone}
use Rattle.export_core.specs.ExportLaws.Export.{IsCopy, IsFamily, Sent, export, exported, messages_of}
use Rattle.journal.specs.declared.journal.body.Body.{Body}
use Rattle.journal.specs.Journal.History.{Told}
use Rattle.journal.specs.Journal.Logs.{is_of}
use Rattle.journal.specs.Journal.Replies.{is_held}
use Rattle.journal.specs.declared.journal.refusal.Refusal.{Refusal}
use Rattle.keri_outside.specs.declared.limits.Limits.{Limits}
use Rattle.validator_core.specs.ValidatorCore.View.{CoreView, accepted_by, told_of}

-- The text is that of the messages of the accepted events of the identifier's family, of which it has one itself; and
-- whoever reads it reads just these messages. Each message of an event has a signature of its controller, so that none is
-- refused as unsigned. Where no two different events of an identifier and number have one digest, each full validator that
-- is told by one reader of this text alone, whose verifier says yes to all, refuses no message, and accepts just these
-- events, in this order.
pub record IsExport (core : CoreView) (first : Prefix) (text : List ℕ) (count : ℕ) : Type 0 where
  pub family : List Prefix
  pub is_family : IsFamily (accepted_by core) first family
  pub known : list_any (is_of first) (accepted_by core) ≡ true
  pub text_is : IsExportText (export (told_of core) family) text
  pub reads : ReadsAs (export (told_of core) family) text
  pub signed : (b : Body) (m : Sent) → Contains (accepted_by core) b → Contains (messages_of (told_of core) (accepted_by core) b) m
      → list_any is_held m.claims ≡ true
  pub count_is : count ≡ length (exported family (accepted_by core))
  pub copied : (limits : Limits) (refused : List Refusal) (whole : List Told) → HasNoClash (accepted_by core) → ReadsAlone limits text refused whole
      → (refused ≡ []) × IsCopy family (told_of core) whole
