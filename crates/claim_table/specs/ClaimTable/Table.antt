-- The table as its callers see it.
use Rattle.std.specs.Prelude.{◌≡◌, ◌<◌, ℕ, true, List, [], Option, Some, None, slice_get, take}
use Rattle.claim_table.specs.declared.claim_table.row.Row.{Row}
use Rattle.claim_table.specs.declared.claim_table.signature.Signature.{Signature}
use Rattle.claim_table.specs.ClaimTable.Rows.{is_raised}

-- the rows, and the signature whose verdict may still be taken back, where there is one
pub record Table : Type 0 where
  pub rows : List Row
  pub pending : Option Signature

abbrev pub nothing : Table
nothing = record { rows = []; pending = None }

-- some of the first rows is of the pending signature, where there is one
abbrev pub KeepsPending : ℕ → List Row → Option Signature → Type 0
KeepsPending len rows None = Unit {0}
KeepsPending len rows (Some s) = is_raised (take len rows) s ≡ true

-- each row is of a body below this number
abbrev pub AreBelow : ℕ → List Row → Type 0
AreBelow bodies rows = (i : ℕ) (r : Row) → slice_get rows i ≡ Some r → r.claimed.body < bodies
