use Rattle.shelf_log.proofs.ShelfLogLemmas.Blanks.{extends}
use Rattle.shelf_log.proofs.shelf_log.behind.extend.Goals as goal

pub returns-clause-extends : goal.returns-clause-extends
returns-clause-extends g c =
    extends c.args.end c.args.bytes.now (g.D.Disk.shown c.args.disk.now) (g.D.Disk.shown c.write_at.new.self) c.write_at.result (g.met.D.Disk.only_now c.args.disk.now) c.requires.few c.requires.end c.write_at.ensures.written
