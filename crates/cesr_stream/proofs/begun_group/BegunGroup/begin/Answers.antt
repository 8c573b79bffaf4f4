use Rattle.std.proofs.Common.{sym, ap, ◌∙◌, subst}
use Rattle.cesr_stream.specs.Front.{counter_part}
use Rattle.cesr_stream.specs.Stops.{Stops}
use Rattle.cesr_stream.proofs.BegunGroups.{begun, begun_stops}
use Rattle.cesr_stream.proofs.Counters.{supported_whole}
use Rattle.cesr_stream.proofs.begun_group.BegunGroup.begin.Goals as goal

pub empty_group-requires : goal.empty_group-requires
empty_group-requires c = sym c.is_group.ensures ∙ supported_whole c.is_group.result c.args.bytes.now 4 c.in-Ok.ensures.ok.0

pub returns-in-Ok-clause-ok : goal.returns-in-Ok-clause-ok
returns-in-Ok-clause-ok c = λ room.
    begun room c.args.bytes.now c.empty_group.result c.letter_of-letter.result c.count.result c.requires c.letter_of-letter.ensures c.count.ensures.counted
    (ap (λ supported. counter_part supported c.args.bytes.now) (sym c.is_group.ensures) ∙ c.in-Ok.ensures.ok.0) c.in-Ok.ensures.ok.1 c.empty_group.ensures

pub returns-in-Err-clause-err : goal.returns-in-Err-clause-err
returns-in-Err-clause-err c = λ room.
    begun_stops room c.args.bytes.now c.letter_of-letter.result c.in-Err.stop c.letter_of-letter.ensures
    (subst (λ supported. Stops c.args.bytes.now (counter_part supported c.args.bytes.now) c.in-Err.stop) c.is_group.ensures c.in-Err.ensures.err)
