use Rattle.std.proofs.Common.{◌≡◌, sym, ap, ◌∙◌, subst, IfOk, IfErr}
use Rattle.cesr_stream.specs.Begun.{IsItemAt, item_part}
use Rattle.cesr_stream.specs.Front.{front}
use Rattle.cesr_stream.specs.Stops.{Halts}
use Rattle.cesr_stream.proofs.BegunItems.{item_same, item_on}
use Rattle.cesr_stream.proofs.StopLemmas.{halts}
use Rattle.cesr_stream.proofs.begun_item.read_item.Goals as goal

pub returns-in-Err-clause-err : goal.returns-in-Err-clause-err
returns-in-Err-clause-err c = halts c.args.bytes.now (front c.args.limit c.args.begun c.args.bytes.now) c.in-Err.stop (c.in-Err.ensures.err c.args.begun)

pub returns-in-Ok-read-clause-ok : goal.returns-in-Ok-read-clause-ok
returns-in-Ok-read-clause-ok c =
    let bytes = c.args.bytes.now in
    let same : item_part c.read.new.self c.args.begun bytes ≡ front c.args.limit c.args.begun bytes
    = ap (λ part. part c.args.begun bytes) c.read.ensures.same ∙ sym (item_same c.args.limit bytes c.in-Ok.read c.in-Ok.ensures.ok c.args.begun) in
    subst (λ part. IfOk c.finish.result (IsItemAt part bytes)) same c.finish.ensures.ok

pub returns-in-Ok-read-clause-err : goal.returns-in-Ok-read-clause-err
returns-in-Ok-read-clause-err c =
    let bytes = c.args.bytes.now in
    let same : item_part c.read.new.self c.args.begun bytes ≡ front c.args.limit c.args.begun bytes
    = ap (λ part. part c.args.begun bytes) c.read.ensures.same ∙ sym (item_same c.args.limit bytes c.in-Ok.read c.in-Ok.ensures.ok c.args.begun) in
    subst (λ part. IfErr c.finish.result (Halts bytes part)) same c.finish.ensures.err

pub returns-in-Err-read-clause-read : goal.returns-in-Err-read-clause-read
returns-in-Err-read-clause-read c = item_on c.args.limit c.args.bytes.now c.in-Ok.read c.in-Ok.ensures.ok c.read.new.self c.read.ensures.same c.read.ensures.read

pub returns-in-Err-read-clause-err : goal.returns-in-Err-read-clause-err
returns-in-Err-read-clause-err c =
    let bytes = c.args.bytes.now in
    subst (λ part. Halts bytes part c.in-Err-read.stop) (sym (item_same c.args.limit bytes c.in-Ok.read c.in-Ok.ensures.ok c.args.begun)) (c.in-Err-read.ensures.err c.args.begun)
