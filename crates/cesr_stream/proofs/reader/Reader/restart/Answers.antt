use Rattle.std.proofs.Common.{refl, ap, arith, length}
use Rattle.cesr_stream.specs.Front.{front}
use Rattle.cesr_stream.proofs.reader.Reader.restart.Goals as goal

pub invariant_of-self : goal.invariant_of-self
unfolding front
invariant_of-self c =
    let none = c.clear.ensures.items in
    record {
      standard = c.self.invariant.standard;
      short = omega (arith, ap length none);
      read = rw c.take.ensures.after tt;
      drained = λ drained not_bad. rw none refl;
    }
