use Rattle.std.proofs.Common.{◌*◌, sym, subst}
use Rattle.cesr_stream.specs.Begun.{AreGroupsRead}
use Rattle.cesr_stream.specs.Front.{groups_part, wrap_part}
use Rattle.cesr_stream.specs.Stops.{Halts}
use Rattle.cesr_stream.proofs.BegunWraps.{wrap_on, wrap_whole, wrap_halts}
use Rattle.cesr_stream.proofs.begun_wrap.BegunWrap.read.Goals as goal

pub returns-in-Ok-clause-whole : goal.returns-in-Ok-clause-whole
returns-in-Ok-clause-whole c =
    let bytes = c.args.bytes.now in
    let new = c.read_groups.new.self in
    let read = subst (λ xs. AreGroupsRead xs new) c.behind.ensures c.read_groups.ensures.read in
    wrap_whole bytes new (wrap_on bytes c.args.self.now c.requires new c.read_groups.ensures.same read) c.in-Ok.ensures.all

pub returns-in-Err-clause-err : goal.returns-in-Err-clause-err
returns-in-Err-clause-err c =
    let bytes = c.args.bytes.now in
    let old = c.args.self.now in
    let halts = subst (λ xs. Halts xs (groups_part old.fours (4 * old.fours) xs) c.in-Err.stop) c.behind.ensures c.in-Err.ensures.err in
    subst (λ stop. Halts bytes (wrap_part bytes) stop) (sym c.behind-in-Err.ensures) (wrap_halts bytes old c.requires c.in-Err.stop halts)
