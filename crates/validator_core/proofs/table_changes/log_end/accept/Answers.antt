use Rattle.std.proofs.Common.{◌<◌, sym, ◌∙◌, ap, subst, length}
use Rattle.std.specs.Prelude.{◌==◌, Contains}
use Rattle.std.specs.List.{list_any}
use Rattle.std.specs.List.Sorted.{IsStrictlyIncreasing}
use Rattle.validator_core.specs.Tables.View.{View}
use Rattle.validator_core.proofs.TableChangesLemmas.Events.{on_ok_then}
use Rattle.journal.proofs.JournalLemmas.Places.{some_at}
use Rattle.validator_core.proofs.AcceptanceLemmas.Rewound.{extends_itself, extends_then}
use Rattle.validator_core.proofs.TableChangesLemmas.Steps.{logged_appended}
use Rattle.validator_core.proofs.TableChangesLemmas.Turning.{accepted, turning}
use Rattle.validator_core.proofs.table_changes.log_end.accept.Goals as goal

pub raise_behind-requires-clause-logged : goal.raise_behind-requires-clause-logged
raise_behind-requires-clause-logged c =
    let v = c.args.tables.now in let b = some_at v.held c.args.number c.requires.held in
    logged_appended v c.append.new.tables c.args.number b.0 c.requires.sound b.1 (c.requires.fits b.0 b.1) (c.in_ok-append.ensures.ok b.0 b.1)

pub raise_behind-requires-clause-held : goal.raise_behind-requires-clause-held
raise_behind-requires-clause-held c = λ n has.
    let v = c.args.tables.now in let b = some_at v.held c.args.number c.requires.held in
    let low = c.in_ok-behind.ensures.held n (subst (λ ns. Contains ns n) c.as_slice.ensures.value has) in
    subst (λ (x : View). n < length x.held) (sym (c.in_ok-append.ensures.ok b.0 b.1).new_is) low

pub raise_behind-requires-clause-rising : goal.raise_behind-requires-clause-rising
raise_behind-requires-clause-rising c = subst IsStrictlyIncreasing (sym c.as_slice.ensures.value) c.in_ok-behind.ensures.rising

pub returns-clause-ok : goal.returns-clause-ok
returns-clause-ok c =
    let v = c.args.tables.now in
    on_ok_then c.raise_behind.result c.raise_behind.ensures.ok (λ turns b at.
    accepted v b c.as_slice.result.now c.raise_behind.new.tables
    (turns v b (turning v b c.args.number c.append.new.tables c.requires.sound at (c.requires.fits b at) (c.in_ok-append.ensures.ok b at)))
    (λ n d at_d right none. ap (list_any (λ m. m == n)) c.as_slice.ensures.value ∙ c.in_ok-behind.ensures.all b d n at at_d right none))

pub returns-clause-extends : goal.returns-clause-extends
returns-clause-extends c = extends_then c.args.tables.now c.append.new.tables c.raise_behind.new.tables c.append.ensures.extends c.raise_behind.ensures.extends

pub returns-in_err-behind-clause-extends : goal.returns-in_err-behind-clause-extends
returns-in_err-behind-clause-extends c = extends_itself c.args.tables.now c.requires.sound
