use Rattle.std.proofs.Common.{sym, subst}
use Rattle.cesr_stream.specs.Begun.{AreElementsRead, judged_of, count_of}
use Rattle.cesr_stream.specs.Front.{elements_part, group_part}
use Rattle.cesr_stream.specs.Parts.{less}
use Rattle.cesr_stream.specs.Stops.{Halts}
use Rattle.cesr_stream.proofs.BegunGroups.{begun_on, group_whole, group_halts}
use Rattle.cesr_stream.proofs.begun_group.BegunGroup.read.Goals as goal

pub returns-in-Ok-clause-whole : goal.returns-in-Ok-clause-whole
returns-in-Ok-clause-whole c =
    let bytes = c.args.bytes.now in
    let new = c.read_elements.new.self in
    let read = subst (λ xs. AreElementsRead (less 4 c.args.room) xs new) c.behind.ensures (subst (λ room. AreElementsRead room c.behind.result.now new) c.less.ensures c.read_elements.ensures.read) in
    group_whole c.args.room bytes new (begun_on c.args.room bytes c.args.self.now c.requires new c.read_elements.ensures.same read) c.in-Ok.ensures.all

pub returns-in-Err-clause-err : goal.returns-in-Err-clause-err
returns-in-Err-clause-err c =
    let bytes = c.args.bytes.now in
    let old = c.args.self.now in
    let judged = judged_of old.group in
    let halts = subst (λ xs. Halts xs (elements_part judged (count_of old) (less 4 c.args.room) xs) c.in-Err.stop) c.behind.ensures
    (subst (λ room. Halts c.behind.result.now (elements_part judged (count_of old) room c.behind.result.now) c.in-Err.stop) c.less.ensures c.in-Err.ensures.err) in
    subst (λ stop. Halts bytes (group_part c.args.room bytes) stop) (sym c.behind-in-Err.ensures) (group_halts c.args.room bytes old c.requires c.in-Err.stop halts)
