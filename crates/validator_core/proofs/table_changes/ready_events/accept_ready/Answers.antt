use Rattle.std.proofs.Common.{◌<◌, not, refl, sym, subst}
use Rattle.std.specs.Prelude.{count_by}
use Rattle.std.proofs.lemmas.Option.{slice_get_within}
use Rattle.validator_core.specs.Acceptance.Standing.{told_of}
use Rattle.validator_core.proofs.AcceptanceLemmas.Rewound.{extends_itself, extends_then}
use Rattle.journal.specs.Journal.Logs.{is_in}
use Rattle.validator_core.specs.Tables.View.{log_of}
use Rattle.validator_core.proofs.TableChangesLemmas.Candidates.{leads_itself, none_counted}
use Rattle.validator_core.proofs.TableChangesLemmas.Ends.{fewer_left, goes_on, is_over, ready_new}
use Rattle.validator_core.proofs.table_changes.ready_events.accept_ready.Goals as goal

pub loop-number-init : goal.loop-number-init
loop-number-init c =
    let v = c.args.tables.now in
    (0, sym (none_counted c.args.steps.now), leads_itself c.args.mode (told_of v) v.held c.args.due.now.keys (log_of v), record { held = refl; entries = refl; pending = refl; released = refl }, c.requires.sound, extends_itself v c.requires.sound)

pub accept_next-requires-clause-held : goal.accept_next-requires-clause-held
accept_next-requires-clause-held c = let next = c.in-Some.ensures.some in slice_get_within c.loop-number.tables.held c.in-Some.number next.body next.at

pub loop-number-smaller : goal.loop-number-smaller
loop-number-smaller c =
    let now = c.loop-number.tables in let next = c.in-Some.ensures.some in let took = c.in_ok-accept_next.ensures.ok next.body next.at in
    let less = fewer_left now.held (log_of now) c.in-Some.number next.body next.at (ready_new c.args.mode (told_of now) (log_of now) next.body next.ready) in
    subst (λ hs. count_by (λ b. not (is_in (log_of c.accept_next.new.tables) b)) hs < count_by (λ b. not (is_in (log_of now) b)) now.held) (sym took.keeps.held)
    (subst (λ l. count_by (λ b. not (is_in l b)) now.held < count_by (λ b. not (is_in (log_of now) b)) now.held) (sym took.log) less)

pub loop-number-preserved : goal.loop-number-preserved
loop-number-preserved c =
    let v = c.args.tables.now in let next = c.in-Some.ensures.some in
    goes_on c.args.mode v c.args.due.now.keys c.args.steps.now c.loop-number.tables c.loop-number.due.keys c.next_ready.new.due.keys c.in-Some.number c.loop-number.steps c.next_ready.new.steps c.loop-number.invariant next
    c.accept_next.new.tables c.accept_next.new.due.keys (c.in_ok-accept_next.ensures.ok next.body next.at) c.accept_next.ensures.extends

pub returns-in_err-accept_next-clause-extends : goal.returns-in_err-accept_next-clause-extends
returns-in_err-accept_next-clause-extends c = extends_then c.args.tables.now c.loop-number.tables c.accept_next.new.tables c.loop-number.invariant.5 c.accept_next.ensures.extends

pub returns-clause-ok : goal.returns-clause-ok
returns-clause-ok c = is_over c.args.mode c.args.tables.now c.args.due.now.keys c.args.steps.now c.loop-number.tables c.loop-number.due.keys c.loop-number.steps c.next_ready.new.steps c.loop-number.invariant c.in_default.ensures.none
