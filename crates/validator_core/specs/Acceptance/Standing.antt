-- What is true of the tables of a core at every moment: they stand for a grown log, with its states and its claims.
use Rattle.std.specs.Prelude.{◌≡◌, ℕ, ◌<◌, ◌≤◌, Bool, List, [], ◌∷◌, ◌++◌, length, take, slice_get, Some}
use Rattle.event_body.specs.EventBody.Judging.{SpellsEvent}
use Rattle.journal.specs.declared.journal.body.Body.{Body}
use Rattle.journal.specs.declared.journal.entry.Entry.{Entry}
use Rattle.journal.specs.declared.journal.entry.Entry.TheVariants.{Heard}
use Rattle.journal.specs.Journal.Grown.{IsGrown}
use Rattle.journal.specs.Journal.History.{Told}
use Rattle.journal.specs.Journal.Journals.{told_by}
use Rattle.journal.specs.Journal.Logs.{same_body}
use Rattle.journal.proofs.JournalLemmas.Different.{Differ}
use Rattle.validator_core.specs.Tables.AcceptedLog.Cuts.{IsLog}
use Rattle.validator_core.specs.Tables.AcceptedLog.Values.{Extends as LogExtends}
use Rattle.claim_table.specs.CoreLaws.ClaimRows.{AreClaims}
use Rattle.claim_table.specs.declared.claim_table.signature.Signature.{Signature}
use Rattle.claim_table.specs.ClaimTable.Rows.{heard, unheard}
use Rattle.validator_core.specs.Tables.View.{View, log_of, number_of, with_claims}

-- what the entries tell
abbrev pub told_of : View → List Told
told_of v = told_by v.held v.entries

-- a body spells its event, and has at most as many bytes as a body may have
pub record IsHeld (b : Body) : Type 0 where
  pub spelled : SpellsEvent b.event b.bytes
  pub few : length b.bytes ≤ 65535

-- the bodies are spelled and differ, the entries and the accepted events speak of them, the log is grown, and the states and
-- the claims are those of the log and of what was told
pub record AreSoundTables (v : View) : Type 0 where
  pub spelled : (n : ℕ) (b : Body) → slice_get v.held n ≡ Some b → IsHeld b
  pub differ : Differ same_body v.held
  pub entries_held : (i : ℕ) (e : Entry) → slice_get v.entries i ≡ Some e → number_of e < length v.held
  pub accepted_held : (i n : ℕ) → slice_get v.log.numbers i ≡ Some n → n < length v.held
  pub grown : IsGrown (log_of v)
  pub log : IsLog (log_of v) v.log
  pub claims : AreClaims (told_of v) (log_of v) v.held v.claims.rows

-- the second is the first with more behind it: cut back it is the first
pub record Extends (old new : View) : Type 0 where
  pub held : take (length old.held) new.held ≡ old.held
  pub entries : take (length old.entries) new.entries ≡ old.entries
  pub log : LogExtends old.log new.log
  pub rows : take (length old.claims.rows) new.claims.rows ≡ old.claims.rows
  pub pending : new.claims.pending ≡ old.claims.pending
  pub released : new.released ≡ old.released

-- some bodies and an entry come: they are last, and nothing else has changed but the rows of claims
pub record Comes (more : List Body) (e : Entry) (old new : View) : Type 0 where
  pub held : new.held ≡ old.held ++ more
  pub entries : new.entries ≡ old.entries ++ e ∷ []
  pub log : new.log ≡ old.log
  pub pending : new.claims.pending ≡ old.claims.pending
  pub released : new.released ≡ old.released
  pub sound : AreSoundTables new

-- a verdict on a signature comes: its entry is last, it stands on the signature's rows and may still be taken back, and nothing
-- else has changed
pub record Hears (s : Signature) (verdict : Bool) (reader : ℕ) (old new : View) : Type 0 where
  pub is : new ≡ record (with_claims (record { rows = heard s verdict old.claims.rows; pending = Some s }) old)
      { entries = old.entries ++ Heard reader s.body s.key s.sig verdict ∷ [] }
  pub back : unheard s new.claims.rows ≡ old.claims.rows
  pub sound : AreSoundTables new

-- a body is accepted: it is last in the log, and nothing else has changed but the rows of claims
pub record Accepts (b : Body) (old new : View) : Type 0 where
  pub held : new.held ≡ old.held
  pub entries : new.entries ≡ old.entries
  pub log : log_of new ≡ log_of old ++ b ∷ []
  pub pending : new.claims.pending ≡ old.claims.pending
  pub released : new.released ≡ old.released
  pub sound : AreSoundTables new
