use Rattle.std.proofs.Common.{◌≡◌, length, refl, sym, ◌∙◌, ap}
use Rattle.validator_core.specs.ValidatorCore.View.{accepted_by}
use Rattle.keri_roles.proofs.KeriRolesLemmas.Generated.{chosen_count}
use Rattle.keri_roles.proofs.keri_roles.generate.counts_of.Goals as goal

pub returns : goal.returns
returns c =
    let core = c.args.core.now in
    let numbers = c.accepted.result.now in
    let count : length numbers ≡ length (accepted_by core) = sym (chosen_count core.held numbers c.accepted.ensures.held) ∙ ap length c.accepted.ensures.accepted in
    rw (count, c.in-Some.ensures.rotations, c.in-Some.ensures.bytes, c.from-logs.ensures, c.from-events.ensures) refl
