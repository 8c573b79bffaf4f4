use Rattle.std.proofs.Common.{sym, ◌∙◌, ap, subst}
use Rattle.std.specs.Prelude.{option_map}
use Rattle.key_state.specs.Kept.{IsKept}
use Rattle.validator_core.specs.Tables.View.{body_of, log_of}
use Rattle.validator_core.specs.TableChanges.Awaited.{is_awaited, is_awaited_there}
use Rattle.validator_core.proofs.TableChangesLemmas.Events.{body_there}
use Rattle.validator_core.proofs.table_changes.wait_target.is_awaited_at.Goals as goal

pub is_awaited-requires-clause-kept : goal.is_awaited-requires-clause-kept
is_awaited-requires-clause-kept c =
    let x = body_there c.args.tables.now.held c.args.number c.in-Some.event.now (sym (ap (option_map (λ e. e.now)) c.in-Some.is) ∙ c.event.ensures) in
    subst IsKept (sym x.2) (c.spelled_is_kept.ensures x.0.event x.0.bytes (c.requires.sound.spelled c.args.number x.0 x.1).spelled)

pub returns : goal.returns
returns c =
    let v = c.args.tables.now in let log = log_of v in let mode = c.args.mode in
    let x = body_there v.held c.args.number c.in-Some.event.now (sym (ap (option_map (λ e. e.now)) c.in-Some.is) ∙ c.event.ensures) in
    let y = body_there v.held c.args.waiting c.in-Some-event.waiting.now (sym (ap (option_map (λ e. e.now)) c.in-Some-event.is) ∙ c.event-2.ensures) in
    c.is_awaited.ensures y.0.bytes x.0.bytes
    ∙ (λ i. is_awaited mode log (body_of x.0.bytes (x.2 i)) (body_of y.0.bytes (y.2 i)))
    ∙ (λ i. is_awaited_there mode log (sym x.1 i) (sym y.1 i))
