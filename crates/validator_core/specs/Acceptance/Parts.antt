-- The parts of a body by the rows of a table of claims.
use Rattle.std.specs.Prelude.{ℕ, Bool, List}
use Rattle.journal.specs.EventRules.Parts.{Part, index, reveal, backer}
use Rattle.claim_table.specs.declared.claim_table.part.Part.{Part as TablePart}
use Rattle.claim_table.specs.declared.claim_table.part.Part.TheVariants.{Indexed, Revealed, Backed}
use Rattle.claim_table.specs.declared.claim_table.row.Row.{Row}
use Rattle.claim_table.specs.ClaimTable.Parts.{has_part}

-- a part as the table names it
abbrev pub table_part : Part → TablePart
table_part (index n) = Indexed n
table_part (reveal n) = Revealed n
table_part (backer n) = Backed n

-- some row of the body of a number with a yes brings the part
abbrev pub has_in : List Row → ℕ → Part → Bool
has_in rows n p = has_part rows n (table_part p)
