-- The counts of the parts of one body.
use Rattle.std.specs.Prelude.{◌≡◌, ◌<◌, ◌≤◌, ℕ, Bool, false, cond, ◌&&◌, ◌==◌, nat_lt, List, length, Option, Some, None, slice_get, count_by}
use Rattle.std.specs.BTreeMap.{is_at}
use Rattle.std.specs.List.Sorted.{IsStrictlySortedBy}
use Rattle.std.specs.Map.{keys_of, lookup}
use Rattle.std.specs.declared.cmp.Ordering.{Ordering}
use Rattle.std.specs.declared.cmp.Ordering.TheVariants.{Less, Greater}
use Rattle.std.specs.declared.cmp.Ord as ord
use Rattle.claim_table.specs.contracts.claim_table.part.PartOrd.TheImpl as part_order
use Rattle.claim_table.specs.declared.claim_table.part.Part.{Part}
use Rattle.claim_table.specs.declared.claim_table.part.Part.TheVariants.{Indexed, Revealed, Backed}
use Rattle.claim_table.specs.ClaimTable.Parts.{is_backer}
use denote.Param as param

abbrev pub part_cmp : Part → Part → Ordering
part_cmp = param.read (ord.Ghosts.cmp {X-1 = Part}) part_order.ghosts

abbrev pub same_part : Part → Part → Bool
same_part (Indexed m) (Indexed n) = m == n
same_part (Revealed m) (Revealed n) = m == n
same_part (Backed m) (Backed n) = m == n
same_part _ _ = false

abbrev pub or_zero : Option ℕ → ℕ
or_zero None = 0
or_zero (Some n) = n

abbrev pub bit : Bool → ℕ
bit b = cond b 1 0

-- parts, each with its count
abbrev pub Entries : Type 0
Entries = List (Part × ℕ)

-- the count of a part, where it has an entry
abbrev pub part_entry : Entries → Part → Option ℕ
part_entry entries part = lookup (is_at (part_cmp part)) entries

-- a backer with a count over 0
abbrev pub backs : Part × ℕ → Bool
backs e = is_backer e.0 && nat_lt 0 e.1

-- how many backers have a count over 0
abbrev pub backer_count : Entries → ℕ
backer_count entries = count_by backs entries

-- the entries are in the order of their parts, and so many backers have a count over 0
pub record AreEntries (entries : Entries) (backers : ℕ) : Type 0 where
  pub sorted : IsStrictlySortedBy part_cmp (keys_of entries)
  pub counted : backers ≡ backer_count entries

-- the entry of a part is at this place
abbrev pub IsPlaceOf : Entries → Part → ℕ → Type 0
IsPlaceOf entries part place = (n : ℕ) × (slice_get entries place ≡ Some (part, n))

-- the entry of a part would go to this place: lesser parts are before it, and greater ones from it on
pub record IsGapFor (entries : Entries) (part : Part) (place : ℕ) : Type 0 where
  pub within : place ≤ length entries
  pub before : (i : ℕ) (e : Part × ℕ) → i < place → slice_get entries i ≡ Some e → part_cmp part e.0 ≡ Greater
  pub behind : (i : ℕ) (e : Part × ℕ) → place ≤ i → slice_get entries i ≡ Some e → part_cmp part e.0 ≡ Less
