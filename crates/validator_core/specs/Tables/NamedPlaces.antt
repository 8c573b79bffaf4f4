-- The places of the log by names, found by the first bytes of a name's digest.
use Rattle.std.specs.Prelude.{ℕ, List, [], ◌∷◌, slice_index}
use Rattle.std.specs.Int.{from_be_bytes, w64}
use Rattle.std.specs.Ordering.{nat_cmp}
use Rattle.cesr_codes.specs.declared.digest.Digest.{Digest}
use Rattle.escrow.specs.EventIndex.Keys.{numbers_at}
use Rattle.validator_core.specs.declared.tables.name.Name.{Name}
use Rattle.validator_core.specs.declared.tables.named_places.NamedPlaces.{NamedPlaces}

-- the first eight bytes of a digest, as a number
abbrev pub short_of : Digest → ℕ
short_of d = from_be_bytes w64 (slice_index d.raw 0 ∷ slice_index d.raw 1 ∷ slice_index d.raw 2 ∷ slice_index d.raw 3
    ∷ slice_index d.raw 4 ∷ slice_index d.raw 5 ∷ slice_index d.raw 6 ∷ slice_index d.raw 7 ∷ [])

-- the places at a name
abbrev pub places_at : NamedPlaces → Name → List ℕ
places_at places q = numbers_at nat_cmp places.places (short_of q.said)
