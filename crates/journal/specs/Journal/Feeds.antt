-- What readers feed to a journal: each takes the messages of its own source, in order, and hears its own verifier.
use Rattle.std.specs.Prelude.{◌≡◌, ℕ, ◌+◌, ◌<◌, Bool, false, ◌==◌, List, [], ◌∷◌, ◌++◌, length, map, filter, flat_map, drop, Option, Some, None, IfSome, All, Result, Ok, Err}
use Rattle.cesr_codes.specs.declared.key.Key.{Key}
use Rattle.cesr_codes.specs.declared.sig.Sig.{Sig}
use Rattle.event_body.specs.declared.event_body.event.Event.{Event}
use Rattle.event_body.specs.declared.event_body.body_fault.BodyFault.{BodyFault}
use Rattle.event_body.specs.declared.event_body.body_fault.ReadBody.TheVariants.{Fault}
use Rattle.event_body.specs.EventBody.Judging.{Judges, SpellsEvent}
use Rattle.keri_outside.specs.declared.limits.Limits.{Limits}
use Rattle.cesr_stream.specs.declared.message.Message.{Message}
use Rattle.cesr_stream.specs.Parts.{Part}
use Rattle.cesr_stream.specs.Front.{front}
use Rattle.cesr_stream.specs.Items.{Placed, Items, Stand, IsEnd}
use Rattle.cesr_stream.specs.Messages.{messages}
use Rattle.journal.specs.declared.journal.journal.Journal.{Journal}
use Rattle.journal.specs.declared.journal.refusal.Refusal.{Refusal}
use Rattle.journal.specs.declared.journal.reply.Reason.{Reason}
use Rattle.journal.specs.Journal.Logs.{Body}
use Rattle.journal.specs.Journal.History.{Told, took, heard}
use Rattle.journal.specs.Journal.Replies.{claims_of, refusal}
use Rattle.journal.specs.Journal.Journals.{IsReading, InOrder, told_by}

-- the messages of the items that the bytes begin with
pub record AreMessages (limits : Limits) (bytes : List ℕ) (found : List Message) : Type 0 where
  pub items : List Placed
  pub end : Part
  pub all : Items limits.body bytes items end
  pub made : found ≡ messages limits.message_signatures items

-- The first messages of the bytes: those of items that stand from the front. Where none comes behind them, the items are
-- all that there are.
pub record AreFirst (limits : Limits) (bytes : List ℕ) (first : List Message) : Type 0 where
  pub items : List Placed
  pub begun : Bool
  pub place : ℕ
  pub later : List Message
  pub stand : Stand limits.body bytes items begun place
  pub made : first ++ later ≡ messages limits.message_signatures items
  pub whole : later ≡ [] → IsEnd (front limits.body begun (drop place bytes))

-- the event that a body spells, or the first rule that it fails
abbrev pub GivesBody : List ℕ → Result Event BodyFault → Type 0
GivesBody bytes (Ok e) = Judges bytes (Ok e)
GivesBody bytes (Err fault) = Judges bytes (Err (Fault fault))

-- a message, and what reading its body gives
pub record Judged : Type 0 where
  pub message : Message
  pub gives : Result Event BodyFault

-- the entry of a message, unless it is refused
abbrev pub entry_unless : Option Reason → ℕ → Message → Result Event BodyFault → List Told
entry_unless None reader m (Ok e) = took reader (record { bytes = m.body; event = e }) (claims_of m) ∷ []
entry_unless None reader m (Err fault) = []
entry_unless (Some reason) reader m gives = []

abbrev pub entry_of : ℕ → Judged → List Told
entry_of reader j = entry_unless (refusal j.message j.gives) reader j.message j.gives

-- what is noted of a message that is refused: its place, and the reason
abbrev pub noted_at : ℕ → Option Reason → List Refusal
noted_at place None = []
noted_at place (Some reason) = record { place = place; reason = reason } ∷ []

abbrev pub refusal_of : Judged → List Refusal
refusal_of j = noted_at j.message.place (refusal j.message j.gives)

-- how a reader ended: the bytes that it read and what its verifier says of signatures, where they are told; what it
-- refused; and whether its verifier, a limit or want of memory stopped it before it had taken all that it read
pub record End : Type 0 where
  pub bytes : Option (List ℕ)
  pub says : Key → List ℕ → Sig → Option Bool
  pub refused : List Refusal
  pub stopped : Bool

-- the reader of an entry
abbrev pub reader_of : Told → ℕ
reader_of (took reader b claims) = reader
reader_of (heard reader b key sig verdict) = reader

-- the reader took the entry's body
abbrev pub is_taken_by : ℕ → Told → Bool
is_taken_by n (took reader b claims) = reader == n
is_taken_by n (heard reader b key sig verdict) = false

-- The first messages of the bytes were offered: those that aren't refused are the reader's entries, the others its list
-- of refused ones. Unless it was stopped, these are all the messages.
pub record Feeds (limits : Limits) (told : List Told) (reader : ℕ) (end : End) (bytes : List ℕ) : Type 0 where
  pub offered : List Judged
  pub first : AreFirst limits bytes (map (λ j. j.message) offered)
  pub bodies_are : All (λ j. GivesBody j.message.body j.gives) offered
  pub taken : filter (is_taken_by reader) told ≡ flat_map (entry_of reader) offered
  pub refused : end.refused ≡ flat_map refusal_of offered
  pub all : end.stopped ≡ false → AreMessages limits bytes (map (λ j. j.message) offered)

-- a verdict that the reader heard is what its verifier says
abbrev pub IsHeardFrom : ℕ → (Key → List ℕ → Sig → Option Bool) → Told → Type 0
IsHeardFrom n says (took reader b claims) = Unit {0}
IsHeardFrom n says (heard reader b key sig verdict) = reader ≡ n → IfSome (says key b.bytes sig) (λ said. verdict ≡ said)

-- what one reader feeds, as far as its source and its verifier tell
abbrev pub FeedsOne : Limits → List Told → ℕ → End → Type 0
FeedsOne limits told reader end = IfSome end.bytes (Feeds limits told reader end) × All (IsHeardFrom reader end.says) told

-- each of these readers feeds, the first of them having this number
abbrev pub FeedEach : Limits → List Told → ℕ → List End → Type 0
FeedEach limits told reader [] = Unit {0}
FeedEach limits told reader (end ∷ ends) = FeedsOne limits told reader end × FeedEach limits told (reader + 1) ends

-- what is told comes from the readers, and from no other
pub record Fed (limits : Limits) (ends : List End) (told : List Told) : Type 0 where
  pub each : FeedEach limits told 0 ends
  pub only : All (λ t. reader_of t < length ends) told

-- The readers, and no other, fed the journal of a core that began with so many bodies. It holds these, then the bodies
-- that came, each once in order of first coming.
pub record IsFed (limits : Limits) (base : ℕ) (ends : List End) (j : Journal) : Type 0 where
  pub held : List Body
  pub reading : IsReading SpellsEvent j.bodies held
  pub in_order : InOrder base held j.entries
  pub all_held : length (told_by held j.entries) ≡ length j.entries
  pub fed : Fed limits ends (told_by held j.entries)
