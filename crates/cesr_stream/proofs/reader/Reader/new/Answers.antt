use Rattle.std.proofs.Common.{refl, ap, arith, length}
use Rattle.cesr_stream.specs.Front.{front}
use Rattle.cesr_stream.proofs.reader.Reader.new.Goals as goal

pub invariant_of-result : goal.invariant_of-result
unfolding front
invariant_of-result c =
    let none = c.new.ensures.items in
    record {
      standard = c.args.limits.body_standard;
      short = omega (arith, ap length none);
      read = tt;
      drained = λ drained not_bad. rw none refl;
    }
