use Rattle.std.proofs.Common.{sym, ◌∙◌, ap, subst}
use Rattle.std.specs.Prelude.{option_map}
use Rattle.std.proofs.lemmas.Option.{IfSome_then}
use Rattle.event_body.specs.EventBody.Events.{is_interaction, prefix_of}
use Rattle.key_state.specs.Kept.{IsKept}
use Rattle.journal.specs.Journal.Logs.{stepped, takes}
use Rattle.validator_core.specs.Tables.AcceptedLog.Values.{last_of}
use Rattle.validator_core.specs.Tables.View.{log_of}
use Rattle.validator_core.proofs.TableChangesLemmas.Events.{body_there, event_is, if_ok_then, no_event}
use Rattle.validator_core.proofs.TableChangesLemmas.Steps.{made, taken}
use Rattle.validator_core.proofs.table_changes.log_end.state_of.Goals as goal

pub state_made-requires-clause-kept : goal.state_made-requires-clause-kept
state_made-requires-clause-kept c =
    let x = body_there c.args.tables.now.held c.args.number c.in-Some.event.now (sym (ap (option_map (λ e. e.now)) c.in-Some.is) ∙ c.event.ensures) in
    subst IsKept (sym x.2) (c.spelled_is_kept.ensures x.0.event x.0.bytes (c.requires.sound.spelled c.args.number x.0 x.1).spelled)

pub state_made-requires-clause-takes : goal.state_made-requires-clause-takes
state_made-requires-clause-takes c =
    let x = body_there c.args.tables.now.held c.args.number c.in-Some.event.now (sym (ap (option_map (λ e. e.now)) c.in-Some.is) ∙ c.event.ensures) in
    (λ i. takes (last_of (prefix_of (x.2 i)) (c.log.ensures i).states) (x.2 i))
    ∙ taken (log_of c.args.tables.now) c.args.tables.now.log c.requires.sound.log x.0 (c.requires.fits x.0 x.1)

pub unreachable-requires : goal.unreachable-requires
unreachable-requires c = no_event c.args.tables.now.held c.args.number c.requires.held (ap (option_map (λ e. e.now)) (sym c.in-None.is) ∙ c.event.ensures)

pub returns-clause-some : goal.returns-clause-some
returns-clause-some c =
    let found = sym (ap (option_map (λ e. e.now)) c.in-Some.is) ∙ c.event.ensures in
    if_ok_then c.state_made.result c.state_made.ensures.some (λ o makes. IfSome_then o makes (λ s h b at.
    let same = event_is c.args.tables.now.held c.args.number c.in-Some.event.now b found at in
    made (log_of c.args.tables.now) c.args.tables.now.log c.requires.sound.log b (c.requires.fits b at) s
    (ap is_interaction (sym same) ∙ h.0) ((λ i. stepped (last_of (prefix_of (sym same i)) (sym c.log.ensures i).states) (sym same i)) ∙ h.1)))
