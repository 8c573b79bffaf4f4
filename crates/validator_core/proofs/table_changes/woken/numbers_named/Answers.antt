use Rattle.std.proofs.Common.{Some, inl, inr, sym, ◌∙◌, ap, subst, refl}
use Rattle.std.specs.Prelude.{Contains, option_map}
use Rattle.event_body.specs.EventBody.Events.{prefix_of, said_of, sn_of}
use Rattle.journal.specs.Journal.Readiness.{is_local}
use Rattle.journal.specs.Journal.Seals.{seals as journal_seals}
use Rattle.validator_core.specs.Tables.View.{log_of, waiter_of}
use Rattle.validator_core.proofs.TableChangesLemmas.Events.{event_is, if_ok_both}
use Rattle.validator_core.proofs.TableChangesLemmas.Waking.{own_seal, waits_there, woken}
use Rattle.validator_core.proofs.table_changes.woken.numbers_named.Goals as goal

pub returns-in-Full : goal.returns-in-Full
returns-in-Full c = record {
  all = if_ok_both c.with_sealed.result c.with_sealed.ensures.kept c.with_sealed.ensures.sealed (λ all kept sealed d b n at_d at wakes.
      let v = c.args.tables.now in
      let found = ap (option_map (λ e. e.now)) (sym c.in-Some.is) ∙ c.event.ensures in
      let same = event_is v.held c.args.number c.in-Some.event.now d found at_d in
      let was = woken c.args.mode (log_of v) d b wakes in
      let there = waits_there c.waiting.result.now v.held v.released v.log.numbers n b c.waiting.ensures at was.0 in
      let again = waits_there c.waiting-in-Full.result.now v.held v.released v.log.numbers n b c.waiting-in-Full.ensures at was.0 in
      elim was.1 [
        | inl prior ↦ kept n (subst (λ ns. Contains ns n) (sym c.in_ok-numbers.ensures) ((c.woken_by.ensures.those n).1 (waiter_of n b.event, there, prior ∙ ap Some (sym (c.said.ensures ∙ ap said_of same)))))
        | inr sealing ↦ sealed n (record { prefix = prefix_of b.event; sn = sn_of b.event; said = said_of b.event }) (own_seal b.event b.bytes (c.requires.sound.spelled n b at).spelled)
            (sym (c.sealed_by_parts.ensures c.in-Some.event.now b.event) ∙ ap (λ e. journal_seals e b.event) same ∙ sealing.1) (waiter_of n b.event, again, refl)
      ]);
}

pub returns-in-Local : goal.returns-in-Local
returns-in-Local c = record {
  all = λ d b n at_d at wakes.
      (let v = c.args.tables.now in
      let found = ap (option_map (λ e. e.now)) (sym c.in-Some.is) ∙ c.event.ensures in
      let same = event_is v.held c.args.number c.in-Some.event.now d found at_d in
      let was = woken c.args.mode (log_of v) d b wakes in
      let there = waits_there c.waiting.result.now v.held v.released v.log.numbers n b c.waiting.ensures at was.0 in
      elim was.1 [
        | inl prior ↦ subst (λ ns. Contains ns n) (sym c.in_ok-numbers.ensures) ((c.woken_by.ensures.those n).1 (waiter_of n b.event, there, prior ∙ ap Some (sym (c.said.ensures ∙ ap said_of same))))
        | inr sealing ↦ (let local = ap is_local c.in-Local.is in let no = sym local ∙ sealing.0 in cc)
      ]);
}
