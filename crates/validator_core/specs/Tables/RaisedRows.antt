-- What raising claims adds to the rows of a table.
use Rattle.std.specs.Prelude.{◌≡◌, ℕ, ◌==◌, true, List, Option}
use Rattle.std.specs.List.{list_all}
use Rattle.event_body.specs.declared.event_body.event.Event.{Event}
use Rattle.key_state.specs.Exposure.{own_rules}
use Rattle.key_state.specs.States.{State}
use Rattle.claim_table.specs.CoreLaws.Claimed.{rows_of}
use Rattle.claim_table.specs.declared.claim_table.claimed.Claimed.{Claimed}
use Rattle.claim_table.specs.ClaimTable.Rows.{raised_all}
use Rattle.claim_table.specs.ClaimTable.Table.{Table}
use Rattle.claim_table.specs.CoreLaws.ClaimRows.{AreFound}
use Rattle.journal.specs.declared.journal.claim.Claim.{Claim}

-- the claims whose keys are found are raised on the event of a number, behind a state
pub record RaisesRows (n : ℕ) (s : Option State) (e : Event) (claims : List Claim) (old new : Table) : Type 0 where
  pub added : List Claimed
  pub found : AreFound n s e (rows_of (own_rules s e) claims) added
  pub new_is : new ≡ record old { rows = raised_all old.rows added }

-- some claims on the event of a number are raised
pub record RaisesSomeRows (n : ℕ) (old new : Table) : Type 0 where
  pub added : List Claimed
  pub on : list_all (λ c. c.body == n) added ≡ true
  pub new_is : new ≡ record old { rows = raised_all old.rows added }
