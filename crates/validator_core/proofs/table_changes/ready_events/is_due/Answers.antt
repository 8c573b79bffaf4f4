use Rattle.std.proofs.Common.{sym, ◌∙◌, ap, inl, inr}
use Rattle.std.specs.Prelude.{option_map}
use Rattle.std.proofs.lemmas.Bool.{cases_Bool}
use Rattle.journal.proofs.JournalLemmas.Places.{some_at}
use Rattle.journal.specs.Journal.Readiness.{is_ready}
use Rattle.validator_core.specs.Acceptance.Standing.{told_of}
use Rattle.claim_table.proofs.CoreLawsLemmas.Entries.{ready_waits}
use Rattle.validator_core.specs.Tables.View.{log_of}
use Rattle.validator_core.proofs.TableChangesLemmas.Events.{looked_some, looked_none, waits_held}
use Rattle.validator_core.proofs.TableChangesLemmas.Waking.{waits_there}
use Rattle.validator_core.proofs.table_changes.ready_events.is_due.Goals as goal

pub returns-then-is_some-clause-ready : goal.returns-then-is_some-clause-ready
returns-then-is_some-clause-ready c = λ h.
    let v = c.args.tables.now in
    let w = looked_some (λ w. w.now) c.look.result (sym c.is_some.ensures ∙ c.if-is_some.true) in
    let b = some_at v.held c.args.number (waits_held c.waiting.result.now v.held _ c.args.number w.0.now c.waiting.ensures (sym c.look.ensures.found ∙ ap (option_map (λ w. w.now)) w.1)) in
    record { body = b.0; at = b.1; ready = sym (c.is_ready.ensures b.0 b.1) ∙ h }

pub returns-else-is_some-clause-not_ready : goal.returns-else-is_some-clause-not_ready
returns-else-is_some-clause-not_ready c = λ h b at.
    let v = c.args.tables.now in
    elim (cases_Bool (is_ready c.args.mode (told_of v) (log_of v) b)) [
      | inr not_ready ↦ not_ready
      | inl ready ↦ (let there = waits_there c.waiting.result.now v.held v.released v.log.numbers c.args.number b c.waiting.ensures at (ready_waits c.args.mode (told_of v) (log_of v) b ready) in
          absurd (looked_none (λ w. w.now) c.look.result (sym c.is_some.ensures ∙ h) _ (c.look.ensures.found ∙ there)))
    ]
