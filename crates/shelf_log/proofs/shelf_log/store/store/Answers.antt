use Rattle.shelf_log.proofs.ShelfLogLemmas.Stored.{first_failed, both_done}
use Rattle.shelf_log.proofs.shelf_log.store.store.Goals as goal

pub returns-in_err-put_durably-clause-stores : goal.returns-in_err-put_durably-clause-stores
returns-in_err-put_durably-clause-stores g c list payload on_disk end_is fits bytes_are =
    first_failed list payload (g.D.Disk.shown c.args.disk.now) on_disk fits c.args.end end_is c.args.staged.now bytes_are
    (g.D.Disk.shown c.put_durably.new.disk) c.put_durably.result c.from_residual.result c.from_residual.ensures.0 c.put_durably.ensures.puts

pub returns-clause-stores : goal.returns-clause-stores
returns-clause-stores g c list payload on_disk end_is fits bytes_are =
    both_done list payload (g.D.Disk.shown c.args.disk.now) on_disk fits c.args.end end_is c.args.staged.now bytes_are
    (g.D.Disk.shown c.put_durably.new.disk) (g.D.Disk.shown c.put_durably-2.new.disk) c.put_durably.result c.put_durably-2.result
    c.in_ok-put_durably.ensures.puts.durable c.in_ok-put_durably.ensures.puts.file c.put_durably.ensures.puts c.put_durably-2.ensures.puts
