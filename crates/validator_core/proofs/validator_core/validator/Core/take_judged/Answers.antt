use Rattle.validator_core.proofs.ValidatorCoreLemmas.MessageCalls.{if_ok, looks_message, takes_message}
use Rattle.validator_core.proofs.validator_core.validator.Core.take_judged.Goals as goal

pub take_event-requires : goal.take_event-requires
take_event-requires c = record { held = record { spelled = c.requires.judged.0.1; few = c.requires.judged.0.0 } }

pub returns-clause-takes : goal.returns-clause-takes
returns-clause-takes c =
    if_ok c.take_event.result c.take_event.ensures.takes (λ reply takes.
    takes_message c.args.self.now c.take_event.new.self c.args.reader c.args.message.now c.args.event reply c.requires.judged (rw c.in_ok-claims.ensures at takes))

pub returns-clause-few : goal.returns-clause-few
returns-clause-few c =
    if_ok c.take_event.result c.take_event.ensures.few (λ reply few.
    looks_message c.args.self.now c.take_event.new.self c.args.message.now c.args.event reply _ _ c.requires.judged few)
