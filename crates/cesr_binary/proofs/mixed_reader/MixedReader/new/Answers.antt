use Rattle.std.proofs.Common.{refl, sym, ap, arith, length, subst}
use Rattle.cesr_binary.specs.GivenBytes.{IsGiven}
use Rattle.cesr_binary.specs.Mixed.{mixed_front}
use Rattle.cesr_binary.proofs.mixed_reader.MixedReader.new.Goals as goal

pub invariant_of-result : goal.invariant_of-result
unfolding mixed_front
invariant_of-result c =
    let none = c.new.ensures.items in
    let e = c.new-2.ensures in
    record {
      standard = c.args.limits.body_standard;
      short = omega (arith, ap length none);
      limited = ap (λ r. r.limit) e.text;
      begun = ap (λ r. r.begun) e.text;
      given = subst (λ bytes. IsGiven bytes c.new-2.result) (sym none) e.given;
      drained = λ drained not_bad. rw none refl;
    }
