use Rattle.std.proofs.Common.{Ok, arith, ◌∙◌}
use Rattle.std.specs.declared.alloc.AllocError.{AllocError}
use Rattle.cesr_binary.proofs.GivenBytes.{judged_all, judged_last, count_all, closed, judged_under}
use Rattle.cesr_binary.proofs.either_reader.EitherReader.read.Goals as goal

pub returns-in_default : goal.returns-in_default
returns-in_default c =
    let s = c.loop-self.self in
    let inv = c.loop-self.invariant in
    let x = c.args.bytes.now in
    record {
      judged = judged_under {E = AllocError} s.text.limit _ s.text.begun _ x (Ok c.in_ok-step.step) inv.1 inv.2
          (judged_all {E = AllocError} s.text.limit s.text.begun x s.given (Ok c.in_ok-step.step) c.in_ok-step.ensures.judged
          (closed AllocError ⊥ c.in_ok-step.step c.in_default.not-NeedMore));
      goes_on = closed AllocError _ c.in_ok-step.step c.in_default.not-NeedMore;
      limit = c.in_ok-step.ensures.limit ∙ inv.1;
    }

pub give-requires-clause-more : goal.give-requires-clause-more
give-requires-clause-more c = omega (arith, c.in_ok-step.ensures.given, c.loop-self-test.true)

pub returns-clause-judged : goal.returns-clause-judged
returns-clause-judged c =
    let s = c.loop-self.self in
    let inv = c.loop-self.invariant in
    let x = c.args.bytes.now in
    let all = count_all x s.given s.text.rest inv.0.given (omega (arith, c.loop-self-test.false, c.turnable-all.ensures.all)) in
    judged_under s.text.limit _ s.text.begun _ x c.step-2.result inv.1 inv.2
    (judged_last s.text.limit s.text.begun x s.given c.step-2.result all c.step-2.ensures.judged)
