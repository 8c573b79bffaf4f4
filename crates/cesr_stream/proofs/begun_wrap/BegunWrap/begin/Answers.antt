use Rattle.cesr_stream.proofs.BegunWraps.{wrap_begun, wrap_stops}
use Rattle.cesr_stream.proofs.begun_wrap.BegunWrap.begin.Goals as goal

pub returns-in-Ok-clause-ok : goal.returns-in-Ok-clause-ok
returns-in-Ok-clause-ok c =
    wrap_begun c.args.bytes.now c.count.result c.new.result c.requires.dash c.requires.letter c.count.ensures.counted c.count.ensures.few c.in-Ok.ensures.ok.0 c.in-Ok.ensures.ok.1 c.new.ensures

pub returns-in-Err-clause-err : goal.returns-in-Err-clause-err
returns-in-Err-clause-err c = wrap_stops c.args.bytes.now c.in-Err.stop c.in-Err.ensures.err
