use Rattle.std.proofs.Common.{arith, take, subst, sym}
use Rattle.verifier_link.specs.Sides.{Gave}
use Rattle.keri_outside.specs.Shown.{source_shown}
use Rattle.verifier_link.proofs.Pieces.{gave_more, field_more, field_holds}
use Rattle.verifier_link.proofs.field.read_field.Goals as goal

pub loop-count-preserved : goal.loop-count-preserved
loop-count-preserved g c =
    let told = source_shown g.S.Source.left g.S.Source.faults in
    let now = c.loop-count.field in
    record {
      few = field_holds c.loop-count.count c.in-Ok.more now c.read.new.buf c.loop-count.invariant.few (omega arith) c.in-Ok.ensures.bytes.0;
      gave = subst (Gave (told c.args.source.now) (told c.read.new.self))
          (sym (field_more c.loop-count.count c.in-Ok.more now c.read.new.buf c.loop-count.invariant.few (omega arith) c.in-Ok.ensures.bytes.0))
          (gave_more (told c.args.source.now) (told c.loop-count.source) (told c.read.new.self) (take c.loop-count.count now) (take c.in-Ok.more c.read.new.buf)
          c.loop-count.invariant.gave (record { left = c.in-Ok.ensures.bytes.1; faults = c.in-Ok.ensures.cause.else_same }));
    }
