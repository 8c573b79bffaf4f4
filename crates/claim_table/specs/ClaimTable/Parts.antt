-- What the yes verdicts of a body add up to.
use Rattle.std.specs.Prelude.{◌≡◌, ◌+◌, ◌≤◌, ℕ, zero, suc, Bool, true, false, cond, ◌&&◌, ◌==◌, List, Option, Some, None}
use Rattle.std.specs.List.{list_any}
use Rattle.claim_table.specs.declared.claim_table.claimed.Parts.{Parts}
use Rattle.claim_table.specs.ClaimTable.BodyParts.{BodyPart}
use Rattle.claim_table.specs.declared.claim_table.part.Part.{Part}
use Rattle.claim_table.specs.declared.claim_table.part.Part.TheVariants.{Indexed, Revealed, Backed}
use Rattle.claim_table.specs.declared.claim_table.row.Row.{Row}
use Rattle.claim_table.specs.ClaimTable.Rows.{is_yes}

abbrev pub is_backer : Part → Bool
is_backer (Indexed n) = false
is_backer (Revealed n) = false
is_backer (Backed n) = true

abbrev pub is_number : Option ℕ → ℕ → Bool
is_number None n = false
is_number (Some m) n = m == n

-- a claim brings the part
abbrev pub brings_part : Parts → Part → Bool
brings_part parts (Indexed n) = is_number parts.index n
brings_part parts (Revealed n) = is_number parts.reveal n
brings_part parts (Backed n) = is_number parts.backer n

-- a claim on the body of a number brings the part of a body
abbrev pub brings : ℕ → Parts → BodyPart → Bool
brings body parts q = (body == q.body) && brings_part parts q.part

-- the row has a yes, and brings the part
abbrev pub supports : BodyPart → Row → Bool
supports q r = is_yes r.verdict && brings r.claimed.body r.claimed.parts q

-- some row of the body with a yes brings the part
abbrev pub has_part : List Row → ℕ → Part → Bool
has_part rows n part = list_any (supports (record { body = n; part = part })) rows

-- how many numbers below a bound pass a test
abbrev pub count_below : (ℕ → Bool) → ℕ → ℕ
count_below test zero = 0
count_below test (suc n) = count_below test n + cond (test n) 1 0

-- so many numbers pass a test: as many are below each bound that is great enough
abbrev pub AreSoMany : (ℕ → Bool) → ℕ → Type 0
AreSoMany test many = (bound : ℕ) × ((n : ℕ) → bound ≤ n → count_below test n ≡ many)
