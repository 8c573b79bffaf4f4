-- What the entry of an event that came adds to the tables: an entry, and the rows of its claims.
use Rattle.std.specs.Prelude.{◌++◌, ◌∷◌, [], List, if◌then◌else◌}
use Rattle.key_state.specs.Exposure.{own_rules}
use Rattle.journal.specs.declared.journal.body.Body.{Body}
use Rattle.journal.specs.declared.journal.claim.Claim.{Claim}
use Rattle.journal.specs.declared.journal.entry.Entry.{Entry}
use Rattle.journal.specs.Journal.Logs.{stands}
use Rattle.journal.specs.Journal.Questions.{state_before}
use Rattle.journal.specs.EventRules.Parts.{Row as Found}
use Rattle.claim_table.specs.CoreLaws.Claimed.{rows_of}
use Rattle.validator_core.specs.Tables.View.{View}

-- the view with one entry more
abbrev pub with_entry : Entry → View → View
with_entry e v = record v { entries = v.entries ++ e ∷ [] }

-- what is found of a body with the claims of an entry that stand on it
abbrev pub found_by : List Body → Body → List Claim → List Found
found_by log b claims = if stands log b then rows_of (own_rules (state_before log b) b.event) claims else []
