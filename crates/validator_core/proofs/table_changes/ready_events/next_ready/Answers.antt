use Rattle.std.proofs.Common.{◌+◌, ◌-◌, ◌^◌, min, sym, ◌∙◌, ap, subst, get_or}
use Rattle.validator_core.specs.Acceptance.Standing.{told_of}
use Rattle.validator_core.specs.Tables.View.{log_of}
use Rattle.validator_core.specs.TableChanges.ReadyEvents.{LeadsTo}
use Rattle.validator_core.proofs.TableChangesLemmas.Candidates.{leads_itself, leads_pass, none_counted, one_more}
use Rattle.validator_core.proofs.TableChangesLemmas.DueNumbers.{less_is}
use Rattle.validator_core.proofs.table_changes.ready_events.next_ready.Goals as goal

pub loop-number-init : goal.loop-number-init
loop-number-init c = let v = c.args.tables.now in (0, sym (none_counted c.args.steps.now), leads_itself c.args.mode (told_of v) v.held c.args.due.now.keys (log_of v))

pub returns-then-is_due-clause-some : goal.returns-then-is_due-clause-some
returns-then-is_due-clause-some c =
    let v = c.args.tables.now in let inv = c.loop-number.invariant in let is = c.is_due.ensures.ready c.if-is_due.true in
    record {
      body = is.body;
      at = is.at;
      ready = is.ready;
      least = λ k d low. less_is c.in-Some.number (get_or c.pop_first.new.self.keys k d) (c.in-Some.ensures.all_above k d low);
      rising = c.pop_first.ensures.ordered;
      passed = inv.0;
      leads = subst (λ due. LeadsTo c.args.mode (told_of v) v.held c.args.due.now.keys (log_of v) due (log_of v) inv.0) c.in-Some.ensures.removal inv.2;
      steps_are = c.is_due.ensures.step ∙ ap (λ s. min (s + 1) (2 ^ 64 - 1)) inv.1 ∙ sym (one_more c.args.steps.now inv.0);
    }

pub loop-number-preserved : goal.loop-number-preserved
loop-number-preserved c =
    let v = c.args.tables.now in let inv = c.loop-number.invariant in (
      inv.0 + 1,
      c.is_due.ensures.step ∙ ap (λ s. min (s + 1) (2 ^ 64 - 1)) inv.1 ∙ sym (one_more c.args.steps.now inv.0),
      leads_pass c.args.mode (told_of v) v.held c.args.due.now.keys (log_of v) c.in-Some.number c.pop_first.new.self.keys (log_of v) inv.0 (c.is_due.ensures.not_ready c.if-is_due.false)
          (subst (λ due. LeadsTo c.args.mode (told_of v) v.held c.args.due.now.keys (log_of v) due (log_of v) inv.0) c.in-Some.ensures.removal inv.2),
    )
