use Rattle.std.proofs.Common.{◌++◌, ℕ, take, get_or, sym, ◌∙◌, ap}
use Rattle.std.specs.Prelude.{flat_map, slice_get, List}
use Rattle.validator_core.proofs.TablesLemmas.Places.{got}
use Rattle.validator_core.specs.Tables.EntryClaims.{came_to}
use Rattle.journal.specs.declared.journal.claim.Claim.{Claim}
use Rattle.validator_core.proofs.ValidatorCoreLemmas.GoodSignatures.{flat_map-more}
use Rattle.export_core.proofs.export_core.came.claims_by_all.Goals as goal

pub loop-place-preserved : goal.loop-place-preserved
loop-place-preserved c =
    let entries = c.args.entries.now in
    let k = c.loop-place.place-index in
    let f : ℕ → List Claim = λ i. came_to c.args.events.now c.args.number (slice_get entries i) in
    c.in_ok-extend_from_slice.ensures.items
    ∙ (λ i. c.loop-place.invariant i ++ c.claims_by.ensures i)
    ∙ ap (λ o. flat_map f (take k c.args.places.now) ++ came_to c.args.events.now c.args.number o) (got entries (get_or c.args.places.now k 0) c.get.result c.get.ensures.lookup)
    ∙ sym (flat_map-more f c.args.places.now k 0 c.loop-place-test.true)
