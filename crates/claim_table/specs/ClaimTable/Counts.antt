-- Counts of parts.
use Rattle.std.specs.Prelude.{ℕ, Bool, false, ◌&&◌, ◌==◌, Option, Some, None, is_some, slice_get}
use Rattle.claim_table.specs.ClaimTable.BodyParts.{BodyPart}
use Rattle.claim_table.specs.ClaimTable.Entries.{Entries, or_zero, part_entry, same_part}
use Rattle.claim_table.specs.declared.claim_table.part.Part.{Part}
use Rattle.claim_table.specs.declared.claim_table.part_counts.PartCounts.{PartCounts}

-- the entry of a part, where there are entries for its body
abbrev pub entry_at : Option Entries → Part → Option ℕ
entry_at None part = None
entry_at (Some entries) part = part_entry entries part

-- the entry of a part of a body
abbrev pub entry : PartCounts → BodyPart → Option ℕ
entry counts q = entry_at (slice_get counts.counts.items q.body) q.part

-- the count of a part
abbrev pub amount : PartCounts → BodyPart → ℕ
amount counts q = or_zero (entry counts q)

-- there is an entry for it
abbrev pub is_entered : PartCounts → BodyPart → Bool
is_entered counts q = is_some (entry counts q)

-- it is this part of the body
abbrev pub is_one : ℕ → Option Part → BodyPart → Bool
is_one body None q = false
is_one body (Some part) q = (body == q.body) && same_part part q.part
