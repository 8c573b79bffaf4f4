use Rattle.std.proofs.Common.{◌≡◌, ℕ, ◌+◌, ◌≤◌, List, Some, ◌∙◌, subst, arith, length, drop, length-take, length-drop, length-append}
use Rattle.shelf_log.specs.KeriDisk.Calls.{IsSizeOf}
use Rattle.shelf_log.proofs.ShelfLogLemmas.Files.{if_some}
use Rattle.shelf_log.proofs.KeriDiskLemmas.Moments.{keeps_both}
use Rattle.shelf_log.proofs.ShelfLogLemmas.Windows.{scan_closed, scan_part, scan_out, scan_on, scan_within}
use Rattle.shelf_log.proofs.shelf_log.list_file.read_records.Goals as goal

pub returns-in-Closed-clause-scans : goal.returns-in-Closed-clause-scans
returns-in-Closed-clause-scans g c =
    if_some _ (g.D.Disk.shown c.args.disk.now).file (λ file is. scan_closed (g.D.Disk.shown c.args.disk.now).file (g.D.Disk.shown c.loop-scan.disk).file c.loop-scan.scan c.take_window.new.self c.in_ok-take_window.field-0 c.read.new.buf
    c.loop-scan.invariant.6 c.loop-scan.invariant.0.file c.in_ok-read.ensures.bytes c.in_ok-take_window.ensures.goes_on file is c.in-Closed.is)

pub returns-in-Part-clause-scans : goal.returns-in-Part-clause-scans
returns-in-Part-clause-scans g c =
    if_some _ (g.D.Disk.shown c.args.disk.now).file (λ file is. scan_part (g.D.Disk.shown c.args.disk.now).file (g.D.Disk.shown c.loop-scan.disk).file c.loop-scan.scan c.take_window.new.self c.in_ok-take_window.field-0 c.read.new.buf
    c.loop-scan.invariant.6 c.loop-scan.invariant.0.file c.in_ok-read.ensures.bytes c.in_ok-take_window.ensures.goes_on file is c.in-Part.behind c.in-Part.is (last file is))
  where
    last : (file : List ℕ) → (g.D.Disk.shown c.args.disk.now).file ≡ Some file → length file ≤ c.loop-scan.scan.offset + length c.read.new.buf
    last file is = omega (arith, subst (λ p. IsSizeOf p c.args.size) is c.requires.size, c.if-count-left.true, c.read.auto.buf, length-take c.min-count.result c.loop-scan.window, c.min-count.ensures, c.loop-scan.invariant.2)

pub loop-scan-preserved : goal.loop-scan-preserved
loop-scan-preserved g c = (
  keeps_both _ _ _ c.loop-scan.invariant.0 c.read.ensures.keeps,
  c.in_ok-read.ensures.cause.else_same ∙ c.loop-scan.invariant.1,
  omega (arith, inside, c.read.auto.buf, length-take c.min-count.result c.loop-scan.window, c.min-count.ensures, c.loop-scan.invariant.2),
  c.take_window.ensures.of.0 ∙ c.loop-scan.invariant.3,
  c.take_window.ensures.of.1 ∙ c.loop-scan.invariant.4,
  omega (arith, length-append c.read.new.buf (drop c.min-count.result c.loop-scan.window), length-drop c.min-count.result c.loop-scan.window, c.read.auto.buf, length-take c.min-count.result c.loop-scan.window, c.loop-scan.invariant.5),
  scan_on (g.D.Disk.shown c.args.disk.now).file (g.D.Disk.shown c.loop-scan.disk).file c.loop-scan.scan c.take_window.new.self c.in_ok-take_window.field-0 c.read.new.buf
      c.loop-scan.invariant.6 c.loop-scan.invariant.0.file c.in_ok-read.ensures.bytes c.in_ok-take_window.ensures.goes_on,
)
  where
    inside : c.take_window.new.self.offset ≤ c.loop-scan.scan.offset + length c.read.new.buf
    inside = scan_within (g.D.Disk.shown c.args.disk.now).file (g.D.Disk.shown c.loop-scan.disk).file c.loop-scan.scan c.take_window.new.self c.in_ok-take_window.field-0 c.read.new.buf
        c.loop-scan.invariant.6 c.loop-scan.invariant.0.file c.in_ok-read.ensures.bytes c.in_ok-take_window.ensures.goes_on

pub returns-in-OutOfRange-clause-scans : goal.returns-in-OutOfRange-clause-scans
returns-in-OutOfRange-clause-scans g c =
    if_some _ (g.D.Disk.shown c.args.disk.now).file (λ file is. scan_out (g.D.Disk.shown c.args.disk.now).file (g.D.Disk.shown c.loop-scan.disk).file c.loop-scan.scan c.take_window.new.self c.in_ok-take_window.field-0 c.read.new.buf
    c.loop-scan.invariant.6 c.loop-scan.invariant.0.file c.in_ok-read.ensures.bytes c.in_ok-take_window.ensures.goes_on file is c.in-OutOfRange.is)
