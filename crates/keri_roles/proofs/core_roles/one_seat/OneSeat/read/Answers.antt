use Rattle.std.proofs.Common.{◌≡◌, ◌∷◌, [], length, ap, ◌∙◌, arith, rules}
use Rattle.keri_roles.proofs.CoreRolesLemmas.OverCore.{only_one}
use Rattle.keri_roles.proofs.core_roles.one_seat.OneSeat.read.Goals as goal

pub remove-reader-requires : goal.remove-reader-requires
remove-reader-requires g c =
    let items : c.push.new.self.items ≡ c.args.providers ∷ [] = search rules in
    let one = ap length items in
    let all = c.read-core.ensures.count in
    let ok = c.read-core.result.readers.ok.0 in
    omega (arith, one, all, ok)

pub returns : goal.returns
returns g c = λ mode limits is.
    let items : c.push.new.self.items ≡ c.args.providers ∷ [] = search rules in
    let one = only_one c.read-core.result.readers.items c.remove-reader.result (c.read-core.ensures.count ∙ ap length items) c.remove-reader.ensures.value in
    rw (items, one, is.has.mode_is, is.has.limits_are) at c.read-core.ensures.told
