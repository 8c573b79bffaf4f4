use Rattle.std.proofs.Common.{◌≡◌, ◌&&◌, true, [], ◌∷◌, ◌++◌, sym, ◌∙◌, ap, subst, inl, inr}
use Rattle.std.specs.Prelude.{Contains, slice_get}
use Rattle.std.proofs.lemmas.Bool.{and_from, and_parts}
use Rattle.journal.proofs.JournalLemmas.Places.{some_at}
use Rattle.validator_core.specs.Acceptance.Standing.{told_of}
use Rattle.claim_table.specs.CoreLaws.Waking.{is_anchored, is_there, is_waiting, may_wake, wakes}
use Rattle.validator_core.specs.Tables.View.{log_of}
use Rattle.validator_core.proofs.TableChangesLemmas.Events.{on_ok_both}
use Rattle.validator_core.proofs.TableChangesLemmas.Few.{few}
use Rattle.validator_core.proofs.TableChangesLemmas.Waking.{ready_fits, woken_next}
use Rattle.validator_core.proofs.table_changes.ready_events.accept_next.Goals as goal

pub accept-requires-clause-fits : goal.accept-requires-clause-fits
accept-requires-clause-fits c = λ b at. ready_fits c.args.mode (told_of c.args.tables.now) (log_of c.args.tables.now) b (c.requires.ready b at)

pub add_due-requires : goal.add_due-requires
add_due-requires c =
    let v = c.args.tables.now in let b = some_at v.held c.args.number c.requires.held in record { sound = (c.in_ok-accept.ensures.ok b.0 b.1).sound }

pub returns-clause-ok : goal.returns-clause-ok
returns-clause-ok c =
    let v = c.args.tables.now in let w = c.accept.new.tables in
    on_ok_both c.add_due.result c.add_due.ensures.there c.add_due.ensures.few (λ there new b at.
    let took = c.in_ok-accept.ensures.ok b at in
    record {
      keeps = record { held = took.held; entries = took.entries; pending = took.pending; released = took.released };
      log = took.log;
      sound = took.sound;
      widens = record {
        keeps = c.add_due.ensures.kept;
        woken = λ n d at_d wakes. (
            let parts = and_parts _ (is_anchored c.args.mode (log_of v ++ b ∷ []) d) wakes in
            let front = and_parts (may_wake c.args.mode (log_of v) b d) (is_there (log_of v ++ b ∷ []) d) parts.0 in
            let waits = (and_parts (is_waiting (log_of v ++ b ∷ []) d) _ front.0).0 in
            let all : (is_waiting (log_of v ++ b ∷ []) d && is_there (log_of v ++ b ∷ []) d && is_anchored c.args.mode (log_of v ++ b ∷ []) d) ≡ true = and_from _ _ (and_from _ _ waits front.1) parts.1 in
            there n d (subst (λ ns. Contains ns n) (sym c.as_slice.ensures.value) (c.in_ok-woken.ensures.all b d n at at_d front.0)) (ap (λ hs. slice_get hs n) took.held ∙ at_d)
            (ap (λ l. is_waiting l d && is_there l d && is_anchored c.args.mode l d) took.log ∙ all));
      };
      few = few (wakes c.args.mode (log_of v) b) v.held c.args.due.now.keys c.add_due.new.due.keys (c.add_due.ensures.rising c.requires.rising) (λ n has. (elim (new n has) [
        | inl there ↦ inl there
        | inr one ↦ inr (woken_next c.args.mode v w c.args.number b at took.held took.log took.sound n
            (c.in_ok-woken.ensures.waits n (subst (λ ns. Contains ns n) c.as_slice.ensures.value one.0)) one.1)
      ]));
    })
