use Rattle.std.proofs.Common.{ℕ, ◌+◌, List, take, sym, ◌∙◌, subst, arith}
use Rattle.shelf_log.specs.ShelfLog.Format.{record_bytes, records}
use Rattle.shelf_log.specs.declared.shelf_log.version.Version.TheVariants.{Two}
use Rattle.shelf_log.proofs.ShelfLogLemmas.Blanks.{ExtendsSoFar, extends_both, extends_failed}
use Rattle.shelf_log.proofs.ShelfLogLemmas.Sizes.{size_more, size_front, records_more}
use Rattle.shelf_log.proofs.shelf_log.behind.write_records.Goals as goal

pub write_record-requires-clause-few : goal.write_record-requires-clause-few
write_record-requires-clause-few g c = (
  omega (arith, c.loop-payload.invariant.0),
  omega (arith, c.loop-payload.invariant.0, c.requires.few, size_front Two c.args.list.now c.loop-payload.payload-index),
)

pub returns-in_err-write_record-clause-extends : goal.returns-in_err-write_record-clause-extends
returns-in_err-write_record-clause-extends g c =
    extends_failed _ _ _ (g.D.Disk.shown c.args.disk.now) (g.D.Disk.shown c.loop-payload.disk) (g.D.Disk.shown c.write_record.new.disk) c.write_record.result c.from_residual.result c.loop-payload.invariant.2 c.write_record.ensures.extends c.from_residual.ensures.0

pub overflow_add-offset-in-loop-payload : goal.overflow_add-offset-in-loop-payload
overflow_add-offset-in-loop-payload g c =
    omega (arith, c.loop-payload.invariant.0, c.requires.few, c.len.ensures, size_more Two c.args.list.now c.loop-payload.payload-index c.payload-item.result c.loop-payload-test.true c.payload-item.is, size_front Two c.args.list.now (c.loop-payload.payload-index + 1))

pub loop-payload-preserved : goal.loop-payload-preserved
loop-payload-preserved g c = (
  omega (arith, c.loop-payload.invariant.0, c.len.ensures, size_more Two c.args.list.now c.loop-payload.payload-index c.payload-item.result c.loop-payload-test.true c.payload-item.is),
  c.in_ok-write_record.ensures.cause.else_same ∙ c.loop-payload.invariant.1,
  subst (λ (l : List ℕ). ExtendsSoFar l (g.D.Disk.shown c.args.disk.now) (g.D.Disk.shown c.write_record.new.disk))
      (sym (records_more Two c.args.list.now c.loop-payload.payload-index c.payload-item.result c.loop-payload-test.true c.payload-item.is))
      (extends_both (records (take c.loop-payload.payload-index c.args.list.now)) (record_bytes c.payload-item.result) (g.D.Disk.shown c.args.disk.now) (g.D.Disk.shown c.loop-payload.disk) (g.D.Disk.shown c.write_record.new.disk) _
      c.loop-payload.invariant.2 (subst (λ (p : List ℕ). ExtendsSoFar (record_bytes p) (g.D.Disk.shown c.loop-payload.disk) (g.D.Disk.shown c.write_record.new.disk)) c.as_slice.ensures
      (record { file = c.in_ok-write_record.ensures.extends.file; blank = c.write_record.ensures.extends.blank; moments = c.write_record.ensures.extends.moments }))),
)
