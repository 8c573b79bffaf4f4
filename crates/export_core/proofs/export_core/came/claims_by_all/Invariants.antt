use Rattle.std.proofs.Common.{◌≡◌, take}
use Rattle.std.specs.Prelude.{flat_map, slice_get}
use Rattle.validator_core.specs.Tables.EntryClaims.{came_to}
use Rattle.export_core.proofs.export_core.came.claims_by_all.Given as goal

-- those by the entries so far are found
abbrev pub invariant-loop-place : goal.invariant-loop-place
invariant-loop-place l = l.claims.items ≡ flat_map (λ i. came_to l.events l.number (slice_get l.entries i)) (take l.place-index l.places)
