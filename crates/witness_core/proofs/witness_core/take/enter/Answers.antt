use Rattle.std.proofs.Common.{ap, sym, ◌∙◌}
use Rattle.validator_core.specs.Tables.View.{body_of}
use Rattle.witness_core.proofs.WitnessCoreLemmas.Taking.{came, full_is, is_refused_room, is_told, never_refused, told_room}
use Rattle.witness_core.proofs.witness_core.take.enter.Goals as goal

pub unreachable-requires : goal.unreachable-requires
unreachable-requires c = never_refused c.args.core.now c.take_event.new.self (body_of c.args.body.now c.args.event) c.args.claims c.in_ok-reply.reply c.in_ok-reply.ensures.takes c.in-Refused.field-0 c.in-Refused.is

pub returns-in-LimitReached-clause-full : goal.returns-in-LimitReached-clause-full
returns-in-LimitReached-clause-full c = λ _. sym (full_is c.args.core.now c.take_event.new.self (body_of c.args.body.now c.args.event) c.args.claims c.in_ok-reply.reply c.in_ok-reply.ensures.takes) ∙ ap is_refused_room c.in-LimitReached.is

pub returns-in-Taken-clause-came : goal.returns-in-Taken-clause-came
returns-in-Taken-clause-came c = came c.args.core.now c.take_event.new.self (body_of c.args.body.now c.args.event) c.args.claims c.in_ok-reply.reply c.in_ok-reply.ensures.takes (ap is_told c.in-Taken.is)

pub returns-in-Taken-clause-not_full : goal.returns-in-Taken-clause-not_full
returns-in-Taken-clause-not_full c = told_room c.args.core.now c.take_event.new.self (body_of c.args.body.now c.args.event) c.args.claims c.in_ok-reply.reply c.in_ok-reply.ensures.takes (ap is_told c.in-Taken.is)

pub returns-in-Again-clause-came : goal.returns-in-Again-clause-came
returns-in-Again-clause-came c = came c.args.core.now c.take_event.new.self (body_of c.args.body.now c.args.event) c.args.claims c.in_ok-reply.reply c.in_ok-reply.ensures.takes (ap is_told c.in-Again.is)

pub returns-in-Again-clause-not_full : goal.returns-in-Again-clause-not_full
returns-in-Again-clause-not_full c = told_room c.args.core.now c.take_event.new.self (body_of c.args.body.now c.args.event) c.args.claims c.in_ok-reply.reply c.in_ok-reply.ensures.takes (ap is_told c.in-Again.is)
