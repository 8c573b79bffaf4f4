use Rattle.std.proofs.Common.{◌<◌, length, arith}
use Rattle.report_lines.specs.Report.{waits_lines}
use Rattle.report_lines.proofs.Waits.{waiting_more}
use Rattle.report_lines.proofs.Listing.{AreRows-push}
use Rattle.report_lines.proofs.wait_lines.waiting_rows.Goals as goal

pub loop-place-preserved : goal.loop-place-preserved
loop-place-preserved c =
    let core = c.args.core.now in
    let within : c.loop-place.place < length core.held = omega (arith, c.loop-place-test.true, c.len-place-end.ensures) in
    rw (c.in_ok-add_row.ensures, waiting_more core c.loop-place.place within)
    (AreRows-push (waits_lines core) _ _ _ _ c.loop-place.invariant (rw c.in_ok-number.ensures.ok at c.in_ok-row.ensures))
