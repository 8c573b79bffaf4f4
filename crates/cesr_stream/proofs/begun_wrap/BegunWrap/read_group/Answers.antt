use Rattle.std.proofs.Common.{◌+◌, ◌-◌, ◌*◌, refl, sym, ap, subst}
use Rattle.cesr_stream.specs.Begun.{IsWholeGroup}
use Rattle.cesr_stream.specs.Front.{begun_group, groups_part}
use Rattle.cesr_stream.specs.Stops.{Halts}
use Rattle.cesr_stream.proofs.BegunWraps.{groups_on, groups_halt}
use Rattle.cesr_stream.proofs.begun_wrap.BegunWrap.read_group.Goals as goal

pub returns-in_ok-push-in-Ok-clause-read : goal.returns-in_ok-push-in-Ok-clause-read
returns-in_ok-push-in-Ok-clause-read c =
    let wrap = c.args.self.now in
    let is = subst (λ xs. IsWholeGroup (begun_group (4 * wrap.fours - wrap.place) xs) xs c.in-Ok.begun) c.behind.ensures c.in-Ok.ensures.whole in
    groups_on c.args.bytes.now wrap c.requires.read c.requires.more c.in-Ok.begun
    (record { groups = c.push.new.self; fours = wrap.fours; place = wrap.place + c.size-size.result; begun = c.read_wrapped.new.begun }) is c.in_ok-push-in-Ok.ensures.ok refl
    (ap (λ n. wrap.place + n) c.size-size.ensures) c.in-Ok.ensures.none

pub returns-in-Err-clause-err : goal.returns-in-Err-clause-err
returns-in-Err-clause-err c =
    let wrap = c.args.self.now in
    let halts = subst (λ xs. Halts xs (begun_group (4 * wrap.fours - wrap.place) xs) c.in-Err.stop) c.behind.ensures c.in-Err.ensures.err in
    subst (λ stop. Halts c.args.bytes.now (groups_part wrap.fours (4 * wrap.fours) c.args.bytes.now) stop) (sym c.behind-in-Err.ensures)
    (groups_halt c.args.bytes.now wrap c.requires.read c.requires.more c.in-Err.stop halts)
