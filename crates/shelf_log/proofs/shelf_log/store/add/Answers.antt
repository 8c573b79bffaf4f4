use Rattle.std.proofs.Common.{◌∙◌, sym}
use Rattle.shelf_log.proofs.ShelfLogLemmas.Stored.{ok_of}
use Rattle.shelf_log.proofs.shelf_log.store.add.Goals as goal

pub returns-then-is_err-clause-stores : goal.returns-then-is_err-clause-stores
returns-then-is_err-clause-stores g c on_disk end_is =
    let stores = c.store.ensures.stores c.args.list.now c.args.payload.now on_disk end_is c.requires.sized (c.deref.ensures.value ∙ c.in_ok-staged.ensures) in
    record { durable = tt; moments = stores.moments }

pub returns-clause-stores : goal.returns-clause-stores
returns-clause-stores g c on_disk end_is =
    let stores = c.store.ensures.stores c.args.list.now c.args.payload.now on_disk end_is c.requires.sized (c.deref.ensures.value ∙ c.in_ok-staged.ensures) in
    record { durable = ok_of _ c.store.result (sym c.is_err.ensures.value ∙ c.if-is_err.false) stores.durable; moments = stores.moments }
