use Rattle.std.proofs.Common.{subst}
use Rattle.std.proofs.lemmas.List.Elements.{All-weaker}
use Rattle.event_body.specs.EventBody.Judging.{SpellsEvent}
use Rattle.validator_core.specs.Acceptance.Standing.{IsHeld}
use Rattle.journal.specs.Journal.Journals.{InOrder}
use Rattle.keri_roles.proofs.CoreRolesLemmas.Agreed.{is_agreed}
use Rattle.keri_roles.proofs.keri_roles.backed_list.backed.Goals as goal

pub returns-clause-agreed : goal.returns-clause-agreed
returns-clause-agreed c =
    let core = c.args.core.now in
    let stands = c.journal-told.ensures.sound in
    is_agreed core.held core.entries (All-weaker IsHeld (λ b. SpellsEvent b.event b.bytes) (λ b h. h.spelled) core.held stands.spelled)
    (subst (λ n. InOrder n core.held core.entries) c.requires.no_base stands.in_order)
