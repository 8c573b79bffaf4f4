-- What the calls of a hub answer, and what they do to what a pass knows.
use Rattle.std.specs.Prelude.{◌≡◌, ℕ, ◌<◌, ◌≤◌, ◌⊎◌, Bool, List, [], ◌++◌, length, slice_get, Option, Some, None, Result}
use mathlib.Core.List.{IsPrefix}
use Rattle.cesr_codes.specs.declared.prefix.Prefix.{Prefix}
use Rattle.cesr_stream.specs.declared.message.Message.{Message}
use Rattle.event_body.specs.declared.event_body.event.Event.{Event}
use Rattle.event_body.specs.declared.event_body.body_fault.BodyFault.{BodyFault}
use Rattle.keri_outside.specs.declared.limits.Limits.{Limits}
use Rattle.key_state.specs.States.{State}
use Rattle.journal.specs.declared.journal.body.Body.{Body}
use Rattle.journal.specs.declared.journal.mode.Mode.{Mode}
use Rattle.journal.specs.declared.journal.question.Noted.{Noted}
use Rattle.journal.specs.declared.journal.question.Question.{Question}
use Rattle.journal.specs.declared.journal.reply.Reply.{Reply}
use Rattle.journal.specs.Journal.Accepted.{accepted}
use Rattle.journal.specs.Journal.CoreCalls.{Takes}
use Rattle.journal.specs.Journal.Feeds.{GivesBody}
use Rattle.journal.specs.Journal.History.{Told, bodies}
use Rattle.journal.specs.Journal.Journals.{AnswersOn, Names}
use Rattle.journal.specs.Journal.Logs.{state}
use Rattle.journal.specs.Journal.Questions.{next_question}
use Rattle.validator_core.specs.ValidatorCore.View.{CoreView}
use Rattle.turn_lock.specs.Known.{Known, after_spent, after_turn}
use Rattle.reader_hub.specs.declared.reader_hub.asked.Asked.{Asked}
use Rattle.reader_hub.specs.declared.reader_hub.core_head.CoreHead.{CoreHead}
use Rattle.reader_hub.specs.declared.reader_hub.extent.Extent.{Extent}
use Rattle.reader_hub.specs.declared.reader_hub.extent.Extent.TheVariants.{First, Free, All as Every}
use Rattle.reader_hub.specs.declared.reader_hub.hub_fault.HubFault.{HubFault}
use Rattle.reader_hub.specs.declared.reader_hub.hub_fault.HubFault.TheVariants.{Spent, OutOfMemory}

-- what a pass of a hub knows
abbrev pub HubPass : Type 0
HubPass = Known Told CoreHead

-- the mode and the limits of a core, which no call changes
abbrev pub head_of : CoreView → CoreHead
head_of core = record { mode = core.mode; limits = core.limits }

-- a core of these limits that began with nothing, and had been told `old`, gave this reply to a message, and was told `new` then
pub record TakesOver (limits : Limits) (old : List Told) (reader : ℕ) (m : Message) (reply : Reply) (new : List Told) : Type 0 where
  pub gives : Result Event BodyFault
  pub judged : GivesBody m.body gives
  pub takes : Takes limits [] old reader m gives reply new

-- The call met a core of this mode and these limits that had been told `met`, which begins with all that the pass had seen.
pub record Meets (p : HubPass) : Type 0 where
  pub head : CoreHead
  pub met : List Told
  pub head_is : p.head ≡ Some head
  pub begins : IsPrefix p.seen met

-- It took the next turn after n others, and told `more` behind that.
pub record TookTurn (limit : ℕ) (p : HubPass) (met more : List Told) (q : HubPass) : Type 0 where
  pub n : ℕ
  pub later : p.past ≤ n
  pub within : n < limit
  pub now : q ≡ after_turn p n (met ++ more) more

-- a message got this reply
pub record TakesAt (limit : ℕ) (p : HubPass) (m : Message) (reply : Reply) (q : HubPass) : Type 0 where
  pub meets : Meets p
  pub more : List Told
  pub takes : TakesOver meets.head.limits meets.met p.number m reply (meets.met ++ more)
  pub turn : TookTurn limit p meets.met more q

-- the bytes are those of the body that the question names, which is held
abbrev pub HasBytes : List Body → Option Asked → Type 0
HasBytes held None = Unit {0}
HasBytes held (Some a) = (b : Body) × (slice_get held a.question.body ≡ Some b) × (a.bytes.items ≡ b.bytes) × (length a.bytes.items ≤ 65535)

-- An open question, with the body that it names: the first one where that is asked for. Or none: where the first or all are asked
-- for, only where none is open.
abbrev pub IsAsked : Mode → List Told → Option Asked → Extent → Type 0
IsAsked mode told (Some a) extent =
    (skip : ℕ) × (extent ≡ First → skip ≡ 0) × Names (bodies [] told) (Some a.question) (next_question mode [] told skip) × HasBytes (bodies [] told) (Some a)
IsAsked mode told None First = Names (bodies [] told) None (next_question mode [] told 0)
IsAsked mode told None Free = Unit {0}
IsAsked mode told None Every = (skip : ℕ) × Names (bodies [] told) None (next_question mode [] told skip)

-- a question was given so
pub record AsksAt (limit : ℕ) (p : HubPass) (extent : Extent) (answer : Option Asked) (q : HubPass) : Type 0 where
  pub meets : Meets p
  pub asked : IsAsked meets.head.mode meets.met answer extent
  pub turn : TookTurn limit p meets.met [] q

-- a verdict was noted so
pub record AnswersAt (limit : ℕ) (p : HubPass) (question : Question) (verdict : Bool) (noted : Noted) (q : HubPass) : Type 0 where
  pub meets : Meets p
  pub more : List Told
  pub answers : AnswersOn meets.head.mode [] meets.met p.number (slice_get (bodies [] meets.met) question.body) question verdict noted (meets.met ++ more)
  pub turn : TookTurn limit p meets.met more q

-- this was the state of an identifier, or none where it had no accepted event
pub record StateAt (limit : ℕ) (p : HubPass) (prefix : Prefix) (found : Option State) (q : HubPass) : Type 0 where
  pub meets : Meets p
  pub found_is : found ≡ state (accepted meets.head.mode [] meets.met) prefix
  pub turn : TookTurn limit p meets.met [] q

-- All turns were taken, and the pass knows that so many are past; or there was no memory, and nothing was told: the pass is as
-- before, or it took a turn.
abbrev pub Stops : ℕ → HubPass → HubFault → HubPass → Type 0
Stops limit p (Spent turns) q = (turns ≡ limit) × (p.past ≤ limit) × (q ≡ after_spent p limit)
Stops limit p OutOfMemory q = (q ≡ p) ⊎ ((m : Meets p) × TookTurn limit p m.met [] q)
