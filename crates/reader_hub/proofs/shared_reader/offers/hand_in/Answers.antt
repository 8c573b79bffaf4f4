use Rattle.std.proofs.Common.{sym, append-nil, inr}
use Rattle.journal.specs.declared.journal.reply.Reply.TheVariants.{Taken, Again, Refused}
use Rattle.turn_lock.specs.Locks.{limit_of}
use Rattle.reader_hub.proofs.SharedReaderLemmas.Offered.{full_tells, offers_one, refused_tells}
use Rattle.reader_hub.proofs.SharedReaderLemmas.Taken.{if_ok, on_err}
use Rattle.reader_hub.proofs.SharedReaderLemmas.Turns.{stop_tells}
use Rattle.reader_hub.proofs.shared_reader.offers.hand_in.Goals as goal

pub returns-in-Ok-Taken-clause-offers : goal.returns-in-Ok-Taken-clause-offers
returns-in-Ok-Taken-clause-offers g c = offers_one (limit_of c.args.hub.now.turn) _ c.args.message.now _ Taken _ _ (λ e. cc) (sym (append-nil _)) (rw c.in-Ok-Taken.field-0-is at c.in-Ok-Taken.ensures.takes)

pub returns-in-Ok-Again-clause-offers : goal.returns-in-Ok-Again-clause-offers
returns-in-Ok-Again-clause-offers g c = offers_one (limit_of c.args.hub.now.turn) _ c.args.message.now _ Again _ _ (λ e. cc) (sym (append-nil _)) (rw c.in-Ok-Again.field-0-is at c.in-Ok-Again.ensures.takes)

pub returns-in-Ok-Refused-clause-offers : goal.returns-in-Ok-Refused-clause-offers
returns-in-Ok-Refused-clause-offers g c = if_ok c.note.result _ _
    (λ noted. offers_one (limit_of c.args.hub.now.turn) _ c.args.message.now _ (Refused c.in-Ok-Refused.reason) _ _ (λ e. cc) noted (rw c.in-Ok-Refused.field-0-is at c.in-Ok-Refused.ensures.takes)) c.note.ensures.ok

pub returns-in-Ok-Refused-clause-nothing : goal.returns-in-Ok-Refused-clause-nothing
returns-in-Ok-Refused-clause-nothing g c = on_err c.note.result _
    (refused_tells (limit_of c.args.hub.now.turn) _ c.args.message.now _ c.in-Ok-Refused.reason (rw c.in-Ok-Refused.field-0-is at c.in-Ok-Refused.ensures.takes))

pub returns-in-Ok-LimitReached-clause-nothing : goal.returns-in-Ok-LimitReached-clause-nothing
returns-in-Ok-LimitReached-clause-nothing g c = (full_tells (limit_of c.args.hub.now.turn) _ c.args.message.now _ (rw c.in-Ok-LimitReached.field-0-is at c.in-Ok-LimitReached.ensures.takes)).0

pub returns-in-Ok-LimitReached-clause-cause : goal.returns-in-Ok-LimitReached-clause-cause
returns-in-Ok-LimitReached-clause-cause g c = inr (full_tells (limit_of c.args.hub.now.turn) _ c.args.message.now _ (rw c.in-Ok-LimitReached.field-0-is at c.in-Ok-LimitReached.ensures.takes)).1

pub returns-in-Err-clause-nothing : goal.returns-in-Err-clause-nothing
returns-in-Err-clause-nothing g c = stop_tells (limit_of c.args.hub.now.turn) _ _ c.in-Err.fault c.in-Err.ensures.stops
