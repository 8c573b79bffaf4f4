use Rattle.std.proofs.Common.{◌≡◌, [], ap}
use Rattle.validator_core.specs.ValidatorCore.View.{told_of}
use Rattle.keri_roles.proofs.CoreRolesLemmas.CoreTold.{untold}
use Rattle.keri_roles.proofs.core_roles.one_seat.OneSeat.new.Goals as goal

pub new-requires-clause-untold : goal.new-requires-clause-untold
new-requires-clause-untold g c =
    let none : told_of c.new-core.result ≡ [] = untold c.new-core.result (ap (λ core. core.entries) c.new-core.ensures) in
    search (none)
