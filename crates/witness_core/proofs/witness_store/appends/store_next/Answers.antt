use Rattle.std.proofs.Common.{ap, length, subst, sym}
use Rattle.witness_core.specs.WitnessStore.Histories.{history_of}
use Rattle.witness_core.specs.WitnessStore.Room.{HasRoom}
use Rattle.witness_core.proofs.WitnessStoreLemmas.Appending.{appended, failed, fits_next, not_refused}
use Rattle.witness_core.proofs.WitnessStoreLemmas.Stored.{appends_none, is_other}
use Rattle.witness_core.proofs.witness_store.appends.store_next.Goals as goal

pub returns-in_err-payload-clause-appends : goal.returns-in_err-payload-clause-appends
returns-in_err-payload-clause-appends g c = appends_none (history_of c.args.core.now) c.args.shelf.now.list (g.D.Disk.shown c.args.shelf.now.disk) (g.met.D.Disk.only_now c.args.shelf.now.disk) c.requires.on_way c.requires.holds

pub returns-in-Ok-clause-fits : goal.returns-in-Ok-clause-fits
returns-in-Ok-clause-fits g c =
    let place_is = ap length c.list-place.ensures in
    subst (λ limits. HasRoom limits (history_of c.args.core.now) c.append.new.self.list c.release.new.self) (sym c.in-Ok.ensures.added.1)
    (fits_next c.args.core.now c.args.shelf.now.list (length c.list-place.result.now) place_is c.requires.lacking c.in_ok-payload.payload.items c.as_slice.result.now c.as_slice.ensures.value c.in_ok-payload.ensures.payload
    c.in_ok-payload.ensures.known c.requires.grown c.args.shelf.now.limits c.args.room.now c.requires.fits c.in_ok-payload.ensures.within c.append.new.self.list c.in-Ok.ensures.added.0 c.release.new.self c.release.ensures.room)

pub returns-in-Ok-clause-appends : goal.returns-in-Ok-clause-appends
returns-in-Ok-clause-appends g c =
    let place_is = ap length c.list-place.ensures in
    appended c.args.core.now c.args.shelf.now.list (length c.list-place.result.now) place_is c.requires.lacking c.in_ok-payload.payload.items c.as_slice.result.now c.as_slice.ensures.value c.in_ok-payload.ensures.payload
    c.in_ok-payload.ensures.read c.append.new.self.list c.in-Ok.ensures.added.0 c.requires.on_way (g.D.Disk.shown c.args.shelf.now.disk) (g.D.Disk.shown c.append.new.self.disk) c.in-Ok.ensures.durable (c.append.ensures.moments c.requires.whole)

pub returns-in-Err-DiskFault-clause-appends : goal.returns-in-Err-DiskFault-clause-appends
returns-in-Err-DiskFault-clause-appends g c =
    let place_is = ap length c.list-place.ensures in
    let leaves = c.append.ensures.moments c.requires.whole in
    failed c.args.core.now c.args.shelf.now.list (length c.list-place.result.now) place_is c.requires.lacking c.in_ok-payload.payload.items c.as_slice.result.now c.as_slice.ensures.value c.in_ok-payload.ensures.payload
    c.append.new.self.list c.in-Err-DiskFault.ensures.same_list.0 c.requires.on_way (g.D.Disk.shown c.args.shelf.now.disk) (g.D.Disk.shown c.append.new.self.disk)
    (λ file now. g.met.D.Disk.counts_now c.append.new.self.disk (g.D.Disk.shown c.args.shelf.now.disk).moment file leaves.later now) leaves

pub returns-in-Err-OutOfMemory-clause-appends : goal.returns-in-Err-OutOfMemory-clause-appends
returns-in-Err-OutOfMemory-clause-appends g c =
    let place_is = ap length c.list-place.ensures in
    let leaves = c.append.ensures.moments c.requires.whole in
    failed c.args.core.now c.args.shelf.now.list (length c.list-place.result.now) place_is c.requires.lacking c.in_ok-payload.payload.items c.as_slice.result.now c.as_slice.ensures.value c.in_ok-payload.ensures.payload
    c.append.new.self.list c.in-Err-OutOfMemory.ensures.same_list.0 c.requires.on_way (g.D.Disk.shown c.args.shelf.now.disk) (g.D.Disk.shown c.append.new.self.disk)
    (λ file now. g.met.D.Disk.counts_now c.append.new.self.disk (g.D.Disk.shown c.args.shelf.now.disk).moment file leaves.later now) leaves

pub unreachable-requires : goal.unreachable-requires
unreachable-requires g c =
    let place_is = ap length c.list-place.ensures in
    not_refused c.args.core.now c.args.shelf.now.list (length c.list-place.result.now) place_is c.requires.lacking c.in_ok-payload.payload.items c.as_slice.result.now c.as_slice.ensures.value c.in_ok-payload.ensures.payload
    c.in_ok-payload.ensures.known c.requires.grown c.args.shelf.now.limits c.args.room.now c.requires.fits c.in_ok-payload.ensures.within c.args.shelf.now.broken
    c.in-Err-LimitReached.field-0 c.requires.whole c.in-Err-LimitReached.ensures.refused (ap is_other c.in-Err-LimitReached.field-0-is)

pub unreachable-requires-in-Err-Broken : goal.unreachable-requires-in-Err-Broken
unreachable-requires-in-Err-Broken g c =
    let place_is = ap length c.list-place.ensures in
    not_refused c.args.core.now c.args.shelf.now.list (length c.list-place.result.now) place_is c.requires.lacking c.in_ok-payload.payload.items c.as_slice.result.now c.as_slice.ensures.value c.in_ok-payload.ensures.payload
    c.in_ok-payload.ensures.known c.requires.grown c.args.shelf.now.limits c.args.room.now c.requires.fits c.in_ok-payload.ensures.within c.args.shelf.now.broken
    c.in-Err-Broken.field-0 c.requires.whole c.in-Err-Broken.ensures.refused (ap is_other c.in-Err-Broken.field-0-is)

pub unreachable-requires-in-Err-NotAShelf : goal.unreachable-requires-in-Err-NotAShelf
unreachable-requires-in-Err-NotAShelf g c =
    let place_is = ap length c.list-place.ensures in
    not_refused c.args.core.now c.args.shelf.now.list (length c.list-place.result.now) place_is c.requires.lacking c.in_ok-payload.payload.items c.as_slice.result.now c.as_slice.ensures.value c.in_ok-payload.ensures.payload
    c.in_ok-payload.ensures.known c.requires.grown c.args.shelf.now.limits c.args.room.now c.requires.fits c.in_ok-payload.ensures.within c.args.shelf.now.broken
    c.in-Err-NotAShelf.field-0 c.requires.whole c.in-Err-NotAShelf.ensures.refused (ap is_other c.in-Err-NotAShelf.field-0-is)
