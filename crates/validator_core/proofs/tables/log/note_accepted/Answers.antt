use Rattle.std.proofs.Common.{subst, sym}
use Rattle.std.specs.Prelude.{Contains}
use Rattle.std.proofs.lemmas.Result.{on_ok_weaker}
use Rattle.event_backing.specs.Listing.{AreSealsOf}
use Rattle.event_body.specs.EventBody.Events.{anchors_of}
use Rattle.escrow.specs.EventIndex.Keys.{numbers_at}
use Rattle.validator_core.specs.Tables.NamedPlaces.{places_at}
use Rattle.validator_core.proofs.TablesLemmas.AddedNumbers.{on_ok}
use Rattle.validator_core.proofs.TablesLemmas.Orders.{seal_cmp}
use Rattle.validator_core.proofs.TablesLemmas.Seals.{sealed_at}
use Rattle.validator_core.proofs.tables.log.note_accepted.Goals as goal

pub returns-clause-named : goal.returns-clause-named
returns-clause-named c = on_ok c.note_seals.result (subst (λ m. Contains (places_at c.add.new.self m) c.args.place) c.name_of.ensures c.in_ok-add.ensures.added)

pub returns-clause-sealed : goal.returns-clause-sealed
returns-clause-sealed c =
    on_ok_weaker c.note_seals.result
    (λ each. sealed_at (numbers_at seal_cmp c.note_seals.new.sealed) c.args.event.now c.args.place c.prefix.result c.as_slice.result.now c.prefix.ensures
    (subst (λ seals. AreSealsOf (anchors_of c.args.event.now) seals) (sym c.as_slice.ensures.value) c.in_ok-seals.ensures) each)
    c.note_seals.ensures.added
