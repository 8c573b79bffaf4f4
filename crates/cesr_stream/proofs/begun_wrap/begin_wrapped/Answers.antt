use Rattle.std.proofs.Common.{ℕ, Option, rules}
use Rattle.cesr_stream.specs.Begun.{IsBegun, IsBegunIn}
use Rattle.cesr_stream.proofs.BegunWraps.{begun_in}
use Rattle.cesr_stream.proofs.StopLemmas.{on_ok}
use Rattle.cesr_stream.proofs.begun_wrap.begin_wrapped.Goals as goal

pub returns-in-Some-eq45-clause-ok : goal.returns-in-Some-eq45-clause-ok
returns-in-Some-eq45-clause-ok c =
    on_ok (λ group. (room : Option ℕ) → IsBegun room c.args.bytes.now group) (λ group. (room : ℕ) → IsBegunIn room c.args.bytes.now group) c.begin.result
    (λ group is. begun_in c.args.bytes.now group (search rules) (search rules) is) c.begin.ensures.ok
