use Rattle.std.proofs.Common.{◌≡◌, Some, sym, ◌∙◌, ap, subst}
use Rattle.std.specs.Prelude.{◌==◌, ◌↔◌, Contains, option_map}
use Rattle.std.specs.List.{list_any}
use Rattle.event_body.specs.EventBody.Events.{said_of}
use Rattle.escrow.specs.Escrow.Escrow.{Waits}
use Rattle.validator_core.proofs.AcceptanceLemmas.NewEvent.{all_woken}
use Rattle.validator_core.proofs.TableChangesLemmas.Events.{event_is, if_ok_then, waits_held}
use Rattle.validator_core.proofs.table_changes.behind.numbers_behind.Goals as goal

pub returns-in-Some-clause-held : goal.returns-in-Some-clause-held
returns-in-Some-clause-held c = if_ok_then c.copied.result c.copied.ensures (λ copy same n has.
    let waits = (c.woken_by.ensures.those n).0 (subst (λ ns. Contains ns n) same has) in
    waits_held c.waiting.result.now c.args.tables.now.held _ n waits.0 c.waiting.ensures waits.1)

pub returns-in-Some-clause-all : goal.returns-in-Some-clause-all
returns-in-Some-clause-all c = if_ok_then c.copied.result c.copied.ensures (λ copy same d b n at_d at right none.
    let v = c.args.tables.now in
    let found = sym (ap (option_map (λ e. e.now)) c.in-Some.is) ∙ c.event.ensures in
    let said = c.said.ensures ∙ ap said_of (event_is v.held c.args.number c.in-Some.event.now d found at_d) in
    ap (list_any (λ m. m == n)) same
    ∙ all_woken v c.requires.sound c.waiting.result.now c.waiting.ensures d c.woken_by.result.now
    (λ m. let those = c.woken_by.ensures.those m in subst (λ s. Contains c.woken_by.result.now m ↔ Waits m (λ w. w.prior ≡ Some s) c.waiting.result.now) said those) n b at right none)
