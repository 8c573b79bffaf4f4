-- What came by the last entry of the tables of a core, and what raising its claims makes of them.
use Rattle.std.specs.Prelude.{◌≡◌, ℕ, ◌<◌, true, List, length, slice_get, Option, Some, None}
use Rattle.event_body.specs.EventBody.Events.{is_receipt}
use Rattle.validator_core.specs.declared.acceptance.footing.Footing.{Footing}
use Rattle.validator_core.specs.declared.acceptance.footing.Footing.TheVariants.{Inception, Behind}
use Rattle.validator_core.specs.Acceptance.Standing.{IsHeld, AreSoundTables}
use Rattle.validator_core.specs.Acceptance.Taken.{found_by, with_entry}
use Rattle.validator_core.specs.Tables.AcceptedLog.Cuts.{IsLog}
use Rattle.claim_table.specs.CoreLaws.ClaimRows.{AreFound}
use Rattle.claim_table.specs.declared.claim_table.claimed.Claimed.{Claimed}
use Rattle.claim_table.specs.declared.claim_table.signature.Signature.{Signature}
use Rattle.claim_table.specs.ClaimTable.Rows.{raised_all}
use Rattle.validator_core.specs.declared.tables.name.Name.{Name}
use Rattle.validator_core.specs.Tables.Names.{name_of}
use Rattle.validator_core.specs.Tables.View.{View, log_of, with_rows}
use Rattle.journal.specs.declared.journal.body.Body.{Body}
use Rattle.journal.specs.declared.journal.claim.Claim.{Claim}
use Rattle.journal.specs.declared.journal.entry.Entry.TheVariants.{Took}
use Rattle.journal.specs.declared.journal.question.Question.{Question}
use Rattle.journal.specs.Journal.Grown.{IsGrown}
use Rattle.journal.specs.Journal.Logs.{same_body}
use Rattle.journal.specs.Journal.Questions.{state_before}
use Rattle.journal.proofs.JournalLemmas.Different.{Differ}

-- the signature that a question names
abbrev pub signature_asked : Question → Signature
signature_asked q = record { body = q.body; key = q.key; sig = q.sig }

-- the place of the state that an event is behind, where it is behind one
abbrev pub place_in : Footing → Option ℕ
place_in Inception = None
place_in (Behind place) = Some place

-- the bodies are spelled and differ, and the log is grown, whatever the rows of claims are
pub record IsLogged (v : View) : Type 0 where
  pub spelled : (n : ℕ) (b : Body) → slice_get v.held n ≡ Some b → IsHeld b
  pub differ : Differ same_body v.held
  pub grown : IsGrown (log_of v)
  pub log : IsLog (log_of v) v.log

-- the claims whose keys are found, where the body of a number stands, are raised
pub record RaisesFound (n : ℕ) (b : Body) (claims : List Claim) (old new : View) : Type 0 where
  pub added : List Claimed
  pub found : AreFound n (state_before (log_of old) b) b.event (found_by (log_of old) b claims) added
  pub new_is : new ≡ with_rows (raised_all old.claims.rows added) old

-- the body of a number came by the last entry, and no claim of that is raised: without it the tables stand
pub record IsTold (number entry : ℕ) (v : View) : Type 0 where
  pub before : View
  pub sound : AreSoundTables before
  pub reader : ℕ
  pub claims : List Claim
  pub low : number < length before.held
  pub entry_is : entry ≡ length before.entries
  pub is : v ≡ with_entry (Took reader number claims) before

-- it is a receipt for the events of a name
pub record IsReceipted (name : Name) (entry : ℕ) (v : View) : Type 0 where
  pub number : ℕ
  pub told : IsTold number entry v
  pub body : Body
  pub at : slice_get told.before.held number ≡ Some body
  pub receipt : is_receipt body.event ≡ true
  pub name_is : name ≡ name_of body.event
