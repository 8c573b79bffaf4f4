use Rattle.std.proofs.Common.{◌+◌, arith, inr, refl}
use Rattle.shelf_log.specs.declared.shelf_log.version.Version.TheVariants.{Two}
use Rattle.shelf_log.proofs.ShelfLogLemmas.Sizes.{size_more, size_front}
use Rattle.shelf_log.proofs.shelf_log.migration.is_over.Goals as goal

pub returns-then-size-from : goal.returns-then-size-from
returns-then-size-from c = (λ yes. inr (omega (arith, c.if-size-from.true, c.loop-payload.invariant.0, c.len.ensures, size_more Two c.args.list.now c.loop-payload.payload-index c.payload-item.result c.loop-payload-test.true c.payload-item.is, size_front Two c.args.list.now (c.loop-payload.payload-index + 1))), λ over. refl)

pub loop-payload-preserved : goal.loop-payload-preserved
loop-payload-preserved c = (
  omega (arith, c.loop-payload.invariant.0, c.len.ensures, size_more Two c.args.list.now c.loop-payload.payload-index c.payload-item.result c.loop-payload-test.true c.payload-item.is),
  omega (arith, c.if-size-from.false, c.args.limits.shelf_bytes_standard),
)
