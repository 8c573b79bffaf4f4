use Rattle.std.proofs.Common.{◌∙◌, Err}
use Rattle.shelf_log.specs.ShelfLog.Scans.{Scans}
use Rattle.shelf_log.proofs.ShelfLogLemmas.Files.{if_some}
use Rattle.shelf_log.proofs.ShelfLogLemmas.Refusals.{match_err, reads_refused}
use Rattle.shelf_log.proofs.ShelfLogLemmas.Windows.{of_some}
use Rattle.shelf_log.proofs.shelf_log.list_file.read_list.Goals as goal

pub returns-in_err-read_records-clause-reads : goal.returns-in_err-read_records-clause-reads
returns-in_err-read_records-clause-reads g c =
    if_some _ (g.D.Disk.shown c.args.disk.now).file (λ file is.
    match_err c.from_residual-in_err-read_records.result c.in_err-read_records.field-0.0 _ _ c.from_residual-in_err-read_records.ensures.1
    (reads_refused c.args.version c.args.limits file c.read_records.new.scan c.in_err-read_records.field-0.0 (c.read_records.ensures.of.0 ∙ c.new-scan.ensures.of.0)
    (of_some (λ f. Scans f c.read_records.new.scan (Err c.in_err-read_records.field-0.0)) (g.D.Disk.shown c.has_mark.new.disk).file file
    (c.has_mark.ensures.keeps.file ∙ c.size.ensures.keeps.file ∙ c.sync.ensures.synced.keeps.file ∙ is) c.in_err-read_records.ensures.scans)))
