-- What the calls of a core do to what it was told.
use Rattle.std.specs.Prelude.{◌≡◌, ℕ, Bool, List, [], ◌∷◌, ◌++◌, Option, Some, None, Result, Ok, Err}
use Rattle.cesr_codes.specs.declared.key.Key.{Key}
use Rattle.cesr_codes.specs.declared.sig.Sig.{Sig}
use Rattle.event_body.specs.declared.event_body.event.Event.{Event}
use Rattle.event_body.specs.declared.event_body.body_fault.BodyFault.{BodyFault}
use Rattle.cesr_stream.specs.declared.message.Message.{Message}
use Rattle.journal.specs.declared.journal.mode.Mode.{Mode}
use Rattle.journal.specs.declared.journal.reply.Reason.{Reason}
use Rattle.journal.specs.declared.journal.reply.Reply.{Reply}
use Rattle.journal.specs.declared.journal.reply.Reply.TheVariants.{Taken, Again, Refused, LimitReached}
use Rattle.journal.specs.declared.journal.question.Noted.{Noted}
use Rattle.journal.specs.declared.journal.question.Noted.TheVariants.{New, Known, Unasked}
use Rattle.journal.specs.Journal.Logs.{Body}
use Rattle.journal.specs.Journal.History.{Told, took, heard}
use Rattle.journal.specs.Journal.Questions.{noted}
use Rattle.journal.specs.Journal.Replies.{claims_of, refusal, reply_to}
use Rattle.keri_outside.specs.declared.limits.Limits.{Limits}

-- what is told after a reply to a message with this body
abbrev pub told_after : List Told → ℕ → Body → Message → Reply → List Told
told_after told reader b m Taken = told ++ took reader b (claims_of m) ∷ []
told_after told reader b m Again = told ++ took reader b (claims_of m) ∷ []
told_after told reader b m (Refused r) = told
told_after told reader b m LimitReached = told

-- the reply where reading gave an event, by the first reason to refuse
abbrev pub reply_unless : Option Reason → Reply → Reply
reply_unless None reply = reply
reply_unless (Some r) reply = Refused r

-- TAKE: the reply to a message, and what is told after it, by what reading its body gave
abbrev pub Takes : Limits → List Body → List Told → ℕ → Message → Result Event BodyFault → Reply → List Told → Type 0
Takes limits base old reader m (Ok e) reply new = let b : Body = record { bytes = m.body; event = e } in
    (reply ≡ reply_unless (refusal m (Ok e)) (reply_to limits base old b (claims_of m))) × (new ≡ told_after old reader b m reply)
Takes limits base old reader m (Err fault) reply new = (Some reply ≡ refused (refusal m (Err fault))) × (new ≡ old)
  where
    refused : Option Reason → Option Reply
    refused None = None
    refused (Some r) = Some (Refused r)

-- what is told after a verdict
abbrev pub told_with : List Told → ℕ → Body → Key → Sig → Bool → Noted → List Told
told_with told reader b key sig verdict New = told ++ heard reader b key sig verdict ∷ []
told_with told reader b key sig verdict Known = told
told_with told reader b key sig verdict Unasked = told

-- ANSWER: what becomes of a verdict on a body's signature, and what is told after it
abbrev pub Answers : Mode → List Body → List Told → ℕ → Body → Key → Sig → Bool → Noted → List Told → Type 0
Answers mode base old reader b key sig verdict answer new =
    (answer ≡ noted mode base old (record { body = b.bytes; key = key; sig = sig })) × (new ≡ told_with old reader b key sig verdict answer)
