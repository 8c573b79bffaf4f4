use Rattle.std.proofs.Common.{sym, ◌∙◌, ap}
use Rattle.std.specs.Option.{option_copied}
use Rattle.journal.specs.Journal.Logs.{stepped, takes}
use Rattle.validator_core.proofs.TableChangesLemmas.Events.{if_err_then, if_ok_then}
use Rattle.validator_core.proofs.TableChangesLemmas.Steps.{after_steps, taken_fault}
use Rattle.validator_core.proofs.table_changes.log_end.state_after.Goals as goal

pub returns-in-Some-clause-state : goal.returns-in-Some-clause-state
returns-in-Some-clause-state c = if_ok_then c.after.result c.after.ensures.state (λ t is. ap (λ o. stepped (option_copied o) c.args.event.now) c.in-Some.is ∙ after_steps c.in-Some.state.now t c.args.event.now is)

pub returns-in-Some-clause-fault : goal.returns-in-Some-clause-fault
returns-in-Some-clause-fault c = if_err_then c.after.result c.after.ensures.fault (λ fault cause. taken_fault c.in-Some.state.now c.args.event.now fault
    (ap (λ o. takes (option_copied o) c.args.event.now) (sym c.in-Some.is) ∙ c.requires.takes) cause)
