-- What a body gets, its message gets.
use Rattle.std.proofs.Common.{◌≡◌, ℕ, List, Result, Ok, Err, refl, ◌∙◌}
use Rattle.std.specs.Prelude.{IfOk}
use Rattle.cesr_stream.specs.declared.message.Message.{Message}
use Rattle.event_body.specs.declared.event_body.event.Event.{Event}
use Rattle.validator_core.specs.Tables.View.{body_of}
use Rattle.journal.specs.declared.journal.reply.Reply.{Reply}
use Rattle.journal.specs.declared.journal.reply.Reply.TheVariants.{Taken, Again, Refused, LimitReached}
use Rattle.journal.specs.Journal.CoreCalls.{told_after}
use Rattle.journal.specs.Journal.History.{Told}
use Rattle.journal.specs.Journal.Replies.{claims_of}
use Rattle.validator_core.specs.ValidatorCore.Calls.{TakesBody, told_then}
use Rattle.validator_core.specs.ValidatorCore.View.{CoreView}
use Rattle.validator_core.specs.ValidatorCore.Messages.{JudgesMessage}
use Rattle.validator_core.specs.ValidatorCore.Looks.{LooksByReply}
use Rattle.validator_core.specs.ValidatorCore.MessageCalls.{LooksByMessage, TakesMessage}

told_same : (old : List Told) (reader : ℕ) (m : Message) (e : Event) (reply : Reply)
    → told_then old reader (body_of m.body e) (claims_of m) reply ≡ told_after old reader (body_of m.body e) m reply
told_same old reader m e Taken = refl
told_same old reader m e Again = refl
told_same old reader m e (Refused r) = refl
told_same old reader m e LimitReached = refl

pub takes_message : (old new : CoreView) (reader : ℕ) (m : Message) (e : Event) (reply : Reply) → JudgesMessage m (Ok e)
    → TakesBody old reader (body_of m.body e) (claims_of m) reply new → TakesMessage old reader m reply new
takes_message old new reader m e reply judged takes = record {
  gives = Ok e;
  judged = judged.0;
  takes = (let none = judged.1 in rw none takes.reply_is, takes.told_is ∙ told_same _ reader m e reply);
  follows = takes.follows;
}

-- and so do its looks
pub looks_message : (old new : CoreView) (m : Message) (e : Event) (reply : Reply) (steps steps_then : ℕ) → JudgesMessage m (Ok e)
    → LooksByReply old (body_of m.body e) reply new steps steps_then → LooksByMessage old m reply new steps steps_then
looks_message old new m e Taken steps steps_then judged few = (e, judged.0, few)
looks_message old new m e Again steps steps_then judged few = (e, judged.0, few)
looks_message old new m e (Refused r) steps steps_then judged few = few
looks_message old new m e LimitReached steps steps_then judged few = (e, judged.0, few)

pub if_ok : {A E : Type 0} {P Q : A → Type 0} (r : Result A E) → IfOk r P → ((x : A) → P x → Q x) → IfOk r Q
if_ok (Ok x) h f = f x h
if_ok (Err e) h f = h
