use Rattle.std.proofs.Common.{ℕ, rules}
use Rattle.cesr_stream.specs.Begun.{IsBegunItem}
use Rattle.cesr_stream.proofs.BegunItems.{body_begun, body_stops}
use Rattle.cesr_stream.proofs.StopLemmas.{on_ok}
use Rattle.cesr_stream.proofs.begun_item.BegunItem.begin.Goals as goal

pub returns-in-Ok-clause-ok : goal.returns-in-Ok-clause-ok
returns-in-Ok-clause-ok c = body_begun c.args.limit c.args.bytes.now c.in-Ok.size (search rules) c.in-Ok.ensures.ok

pub returns-in-Err-clause-err : goal.returns-in-Err-clause-err
returns-in-Err-clause-err c = λ begun. body_stops c.args.limit begun c.args.bytes.now c.in-Err.stop (search rules) (search rules) c.in-Err.ensures.err

pub returns-in-Some-eq45-clause-ok : goal.returns-in-Some-eq45-clause-ok
returns-in-Some-eq45-clause-ok c =
    on_ok (λ item. (limit : ℕ) → IsBegunItem limit c.args.bytes.now item) (IsBegunItem c.args.limit c.args.bytes.now) c.begin_attached.result (λ item is. is c.args.limit) c.begin_attached.ensures.ok
