use Rattle.std.proofs.Common.{◌≡◌, Some, sym, subst, length}
use Rattle.std.specs.Prelude.{slice_get}
use Rattle.validator_core.proofs.TablesLemmas.AcceptedLogLemmas.Made.{fitting_made}
use Rattle.journal.proofs.JournalLemmas.Places.{some_at}
use Rattle.validator_core.specs.Acceptance.Standing.{Extends}
use Rattle.validator_core.proofs.AcceptanceLemmas.Rewound.{extends_itself}
use Rattle.validator_core.specs.Tables.View.{log_of}
use Rattle.journal.specs.declared.journal.body.Body.{Body}
use Rattle.validator_core.specs.TableChanges.Turning.{MakesState}
use Rattle.validator_core.proofs.TableChangesLemmas.Events.{if_none_at, if_some_at, on_ok_both}
use Rattle.validator_core.proofs.TableChangesLemmas.Steps.{appended_interaction, appended_state, extends_log, has_room}
use Rattle.validator_core.proofs.TableChangesLemmas.LoggedTables.{whichever}
use Rattle.validator_core.proofs.table_changes.log_end.append.Goals as goal

pub establish-requires-clause-made : goal.establish-requires-clause-made
establish-requires-clause-made c =
    let v = c.args.tables.now in
    let b = some_at v.held c.args.number c.requires.held in
    let makes = if_some_at (λ s. (b : Body) → slice_get c.args.tables.now.held c.args.number ≡ Some b → MakesState (log_of c.args.tables.now) b s) c.in_ok-state.field-0 c.in-Some.state c.in-Some.is c.in_ok-state.ensures.some b.0 b.1 in
    fitting_made (log_of v) b.0 c.in-Some.state (c.requires.fits b.0 b.1) makes.sets makes.makes

pub interact-requires-clause-room : goal.interact-requires-clause-room
interact-requires-clause-room c = λ b at.
    let v = c.args.tables.now in
    has_room (log_of v) v.log c.requires.sound.log b (c.requires.fits b at)
    (c.spelled_is_kept.ensures b.event b.bytes (c.requires.sound.spelled c.args.number b at).spelled)
    (if_none_at c.in_ok-state.field-0 c.in-None.is c.in_ok-state.ensures.none b at)

pub returns-in-Some-clause-ok : goal.returns-in-Some-clause-ok
returns-in-Some-clause-ok c =
    let v = c.args.tables.now in
    on_ok_both c.establish.result c.establish.ensures.ok c.establish.ensures.grows (λ new grows b at.
    let makes = if_some_at (λ s. (b : Body) → slice_get c.args.tables.now.held c.args.number ≡ Some b → MakesState (log_of c.args.tables.now) b s) c.in_ok-state.field-0 c.in-Some.state c.in-Some.is c.in_ok-state.ensures.some b at in
    appended_state v c.establish.new.self c.args.number b at c.requires.sound.log (c.requires.fits b at) (length v.entries) c.in-Some.state makes new grows)

pub returns-in-Some-clause-extends : goal.returns-in-Some-clause-extends
returns-in-Some-clause-extends c =
    let v = c.args.tables.now in
    whichever c.establish.result (on_ok_both c.establish.result c.establish.ensures.ok c.establish.ensures.extends (λ new more. extends_log v c.establish.new.self _ new more)) c.establish.ensures.err
    (λ more. more) (λ same. subst (Extends v) (sym same) (extends_itself v c.requires.sound))

pub returns-in-None-clause-ok : goal.returns-in-None-clause-ok
returns-in-None-clause-ok c =
    let v = c.args.tables.now in
    on_ok_both c.interact.result c.interact.ensures.ok c.interact.ensures.grows (λ new grows b at.
    appended_interaction v c.interact.new.self c.args.number b at c.requires.sound.log (c.requires.fits b at) (length v.entries)
    (if_none_at c.in_ok-state.field-0 c.in-None.is c.in_ok-state.ensures.none b at) (new b at) (grows b at))

pub returns-in-None-clause-extends : goal.returns-in-None-clause-extends
returns-in-None-clause-extends c =
    let v = c.args.tables.now in
    let b = some_at v.held c.args.number c.requires.held in
    whichever c.interact.result (on_ok_both c.interact.result c.interact.ensures.ok c.interact.ensures.extends (λ new more. extends_log v c.interact.new.self _ (new b.0 b.1) more)) c.interact.ensures.err
    (λ more. more) (λ same. subst (Extends v) (sym same) (extends_itself v c.requires.sound))
