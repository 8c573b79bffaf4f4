use Rattle.std.proofs.Common.{List, ℕ, sym, subst}
use Rattle.shelf_log.specs.ShelfLog.Scans.{GoesThrough}
use Rattle.shelf_log.proofs.ShelfLogLemmas.ScanSteps.{behind_record, one_through}
use Rattle.shelf_log.proofs.shelf_log.scan.Scan.take_window.Goals as goal

pub loop-payload-preserved : goal.loop-payload-preserved
loop-payload-preserved c =
    let piece = c.in-Record.ensures in
    subst (λ (l : List ℕ). GoesThrough c.args.window.now l c.args.self.now c.take.new.self) (sym (behind_record c.loop-payload.rest.now piece.0 c.in-Record.payload.now piece.1))
    (one_through c.args.window.now c.loop-payload.rest.now piece.0 c.args.self.now c.loop-payload.self c.take.new.self c.in-Record.payload.now
    c.loop-payload.invariant piece.1 c.take.ensures.of c.in_ok-take-in-Record.ensures.offset c.in_ok-take-in-Record.ensures.read)
