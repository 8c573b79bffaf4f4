-- What raising claims on a body adds to the tables.
use Rattle.std.specs.Prelude.{◌≡◌, ℕ, ◌==◌, true, List, [], slice_get, Option, Some, None}
use Rattle.std.specs.List.{list_all}
use Rattle.event_body.specs.declared.event_body.event.Event.{Event}
use Rattle.key_state.specs.Exposure.{own_rules}
use Rattle.key_state.specs.States.{State}
use Rattle.claim_table.specs.CoreLaws.Claimed.{rows_of}
use Rattle.claim_table.specs.declared.claim_table.claimed.Claimed.{Claimed}
use Rattle.claim_table.specs.ClaimTable.Rows.{raised_all}
use Rattle.claim_table.specs.CoreLaws.ClaimRows.{AreFound}
use Rattle.journal.specs.declared.journal.body.Body.{Body}
use Rattle.journal.specs.declared.journal.claim.Claim.{Claim}
use Rattle.journal.specs.declared.journal.entry.Entry.{Entry}
use Rattle.journal.specs.Journal.History.{Told, claims_in}
use Rattle.journal.specs.Journal.Journals.{whole}
use Rattle.validator_core.specs.Tables.View.{View, with_rows}

-- the state at a place, where one is given
abbrev pub state_there : Option ℕ → List State → Option State
state_there None states = None
state_there (Some place) states = slice_get states place

-- the claims of an entry that stand on a body
abbrev pub claims_of : Body → Option Told → List Claim
claims_of b None = []
claims_of b (Some t) = claims_in b t

abbrev pub claims_at : List Body → Body → Option Entry → List Claim
claims_at held b None = []
claims_at held b (Some e) = claims_of b (whole held e)

-- the claims whose keys are found are raised on the body of a number, behind a state
pub record Raises (n : ℕ) (s : Option State) (e : Event) (claims : List Claim) (old new : View) : Type 0 where
  pub added : List Claimed
  pub found : AreFound n s e (rows_of (own_rules s e) claims) added
  pub new_is : new ≡ with_rows (raised_all old.claims.rows added) old

-- some claims are raised on the body of a number
pub record RaisesSome (n : ℕ) (old new : View) : Type 0 where
  pub added : List Claimed
  pub on : list_all (λ c. c.body == n) added ≡ true
  pub new_is : new ≡ with_rows (raised_all old.claims.rows added) old
