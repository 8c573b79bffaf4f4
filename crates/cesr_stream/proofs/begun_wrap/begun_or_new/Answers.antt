use Rattle.std.proofs.Common.{ℕ}
use Rattle.cesr_stream.specs.Begun.{IsBegunIn, MayBeBegun}
use Rattle.cesr_stream.proofs.StopLemmas.{on_ok}
use Rattle.cesr_stream.proofs.begun_wrap.begun_or_new.Goals as goal

pub returns-in-None-clause-ok : goal.returns-in-None-clause-ok
returns-in-None-clause-ok c =
    on_ok (λ group. (room : ℕ) → IsBegunIn room c.args.bytes.now group) (λ group. (room : ℕ) → MayBeBegun room c.args.bytes.now c.args.begun → IsBegunIn room c.args.bytes.now group)
    c.begin_wrapped.result (λ group is room may. is room) c.begin_wrapped.ensures.ok
