-- What the tables of a core stand for: the bodies that it holds, the entries of its journal, the log of what is accepted, and
-- the claims on bodies whose keys are found. Each is a list that only grows while a call runs.
use Rattle.std.specs.Prelude.{ℕ, ◌<◌, ◌≤◌, ◌==◌, ◌||◌, List, [], length, take, flat_map, Option, Some, None, All, if◌then◌else◌}
use Rattle.std.specs.List.{list_any}
use Rattle.event_body.specs.declared.event_body.event.Event.{Event}
use Rattle.event_body.specs.EventBody.Events.{said_of, prior_of, is_receipt}
use Rattle.escrow.specs.declared.escrow.waiter.Waiter.{Waiter}
use Rattle.validator_core.specs.Tables.AcceptedLog.Values.{Log, nothing as no_events, rewound as log_rewound}
use Rattle.claim_table.specs.ClaimTable.Table.{Table, nothing as no_claims, KeepsPending}
use Rattle.claim_table.specs.declared.claim_table.row.Row.{Row}
use Rattle.journal.specs.declared.journal.body.Body.{Body}
use Rattle.journal.specs.declared.journal.claim.Claim.{Claim}
use Rattle.journal.specs.declared.journal.entry.Entry.{Entry}
use Rattle.journal.specs.declared.journal.entry.Entry.TheVariants.{Took, Heard}
use Rattle.journal.specs.Journal.Journals.{chosen}
use Rattle.validator_core.specs.declared.tables.mark.Mark.{Mark}

-- the bodies with their events, the entries, the log, the claims, and how many events of the log have left the escrow
pub record View : Type 0 where
  pub held : List Body
  pub entries : List Entry
  pub log : Log
  pub claims : Table
  pub released : ℕ

abbrev pub nothing : View
nothing = record { held = []; entries = []; log = no_events; claims = no_claims; released = 0 }

-- the accepted events, in order
abbrev pub log_of : View → List Body
log_of v = chosen v.held v.log.numbers

-- the number of an entry's body
abbrev pub number_of : Entry → ℕ
number_of (Took reader n claims) = n
number_of (Heard reader n key sig verdict) = n

-- the bytes with their event
abbrev pub body_of : List ℕ → Event → Body
body_of bytes event = record { bytes = bytes; event = event }

-- the claims that came with the body of a number by an entry
abbrev pub came_by : ℕ → Entry → List Claim
came_by n (Took reader m claims) = if m == n then claims else []
came_by n (Heard reader m key sig verdict) = []

-- all that came with it
abbrev pub came_with : ℕ → List Entry → List Claim
came_with n entries = flat_map (came_by n) entries

-- an event that waits, by the number of its body
abbrev pub waiter_of : ℕ → Event → Waiter
waiter_of n e = record { number = n; prior = prior_of e; said = said_of e }

-- the body of a number is an event that isn't among the accepted
unfoldable pub waiter_at : List ℕ → ℕ → Option Body → Option Waiter
waiter_at done n None = None
waiter_at done n (Some b) = if is_receipt b.event || list_any (λ m. m == n) done then None else Some (waiter_of n b.event)

-- with this log
abbrev pub with_log : Log → View → View
with_log log v = record v { log = log }

-- with these claims
abbrev pub with_claims : Table → View → View
with_claims claims v = record v { claims = claims }

-- with these rows of claims
abbrev pub with_rows : List Row → View → View
with_rows rows v = record v { claims = record v.claims { rows = rows } }

-- where the lists ended
abbrev pub mark_of : View → Mark
mark_of v = record { bodies = length v.held; entries = length v.entries; accepted = length v.log.numbers; claims = length v.claims.rows }

-- the lists cut back to where they ended
abbrev pub rewound : Mark → View → View
rewound m v = record {
  held = take m.bodies v.held;
  entries = take m.entries v.entries;
  log = log_rewound m.accepted v.log;
  claims = record v.claims { rows = take m.claims v.claims.rows };
  released = v.released;
}

-- what is left when the lists are cut back speaks of bodies that are left
pub record IsCut (m : Mark) (v : View) : Type 0 where
  pub entries_held : All (λ e. number_of e < m.bodies) (take m.entries v.entries)
  pub accepted_held : All (λ n. n < m.bodies) (take m.accepted v.log.numbers)
  pub released_held : v.released ≤ m.accepted
  pub pending_held : KeepsPending m.claims v.claims.rows v.claims.pending
