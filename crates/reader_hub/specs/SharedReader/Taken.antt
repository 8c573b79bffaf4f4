-- What a reader has done since it began.
use Rattle.std.specs.Prelude.{◌≡◌, ◌≢◌, ℕ, ◌≤◌, ◌⊎◌, List, [], ◌∷◌, ◌++◌, length, Option, None}
use Rattle.lists.specs.KeriSpecs.Causes.{Rose}
use Rattle.cesr_stream.specs.declared.message.Message.{Message}
use Rattle.cesr_stream.specs.Assembly.{all_of}
use Rattle.keri_outside.specs.declared.inquiry.Inquiry.{Inquiry}
use Rattle.journal.specs.declared.journal.refusal.Refusal.{Refusal}
use Rattle.run_status.specs.declared.message_feed.feed_close.FeedClose.{FeedClose}
use Rattle.run_status.specs.declared.message_feed.feed_close.FeedClose.TheVariants as feed
use Rattle.turn_lock.specs.Locks.{LockId}
use Rattle.reader_hub.specs.ReaderHub.Hubs.{HubPass}
use Rattle.run_status.specs.declared.run_status.close.Close.{Close}
use Rattle.run_status.specs.declared.run_status.close.Close.TheVariants.{End, Bad, ReadFault, VerifierFault, SignerFault, DiskFault, WriteFault, Malformed, LimitReached, OutOfMemory}
use Rattle.reader_hub.specs.declared.reader_hub.extent.Extent.{Extent}
use Rattle.reader_hub.specs.declared.reader_hub.extent.Extent.TheVariants.{First}
use Rattle.reader_hub.specs.SharedReader.Asks.{HasNoneOpen, LeavesNone, Says}
use Rattle.reader_hub.specs.SharedReader.Offers.{IsTurnedAway, Offers}
use Rattle.reader_hub.specs.SharedReader.Steps.{SawNoneOpen}

-- what is seen of a reader at one time: which questions it asks between messages, the limit of its lock and which lock it is, what its
-- pass knows, what its verifier says, what that was asked and how often it has failed, and what it refused
pub record Standing : Type 0 where
  pub extent : Extent
  pub limit : ℕ
  pub lock : LockId
  pub pass : HubPass
  pub says : Says
  pub inquiries : Option (List Inquiry)
  pub faults : ℕ
  pub refused : List Refusal

abbrev pub standing : Extent → ℕ → LockId → HubPass → Says → Option (List Inquiry) → ℕ → List Refusal → Standing
standing extent limit lock pass says inquiries faults refused = record {
  extent = extent;
  limit = limit;
  lock = lock;
  pass = pass;
  says = says;
  inquiries = inquiries;
  faults = faults;
  refused = refused;
}

-- the extent, the lock and the verifier are the same
pub record IsSame (s t : Standing) : Type 0 where
  pub extent : t.extent ≡ s.extent
  pub limit : t.limit ≡ s.limit
  pub lock : t.lock ≡ s.lock
  pub says : t.says ≡ s.says

-- Once these messages were offered no question is open of what the pass has seen. Where there are none, the pass is as before.
abbrev pub AreAsked : HubPass → HubPass → List Message → Type 0
AreAsked p q [] = q ≡ p
AreAsked p q (m ∷ messages) = HasNoneOpen q

-- These messages were offered, and the verifier hasn't failed. Where the first question is asked each time, one reader alone has left
-- none open.
pub record HasTaken (s t : Standing) (messages : List Message) : Type 0 where
  pub same : IsSame s t
  pub offers : Offers s.extent s.says s.inquiries t.inquiries s.pass t.pass t.refused messages 0 0
  pub none_open : s.extent ≡ First → length t.pass.seen ≤ length offers.share → SawNoneOpen t.pass
  pub idle : messages ≡ [] → t.pass ≡ s.pass
  pub none_failed : t.faults ≡ s.faults

-- the first of these messages, which is there, finds no room
pub record FindsNoRoom (q : HubPass) (rest : List Message) : Type 0 where
  pub next : Message
  pub later : List Message
  pub rest_is : rest ≡ next ∷ later
  pub turned_away : IsTurnedAway q next

-- why a reader stopped before the rest of these messages: by its verifier's fault, at a limit, or for want of memory
abbrev pub IsStopped : Standing → Standing → List Message → Close → Type 0
IsStopped s t rest VerifierFault = Rose s.faults t.faults
IsStopped s t rest LimitReached = ((t.pass.past ≡ s.limit) ⊎ FindsNoRoom t.pass rest) × (t.faults ≡ s.faults)
IsStopped s t rest OutOfMemory = t.faults ≡ s.faults
IsStopped s t rest End = ⊥
IsStopped s t rest (Bad bad) = ⊥
IsStopped s t rest ReadFault = ⊥
IsStopped s t rest SignerFault = ⊥
IsStopped s t rest DiskFault = ⊥
IsStopped s t rest WriteFault = ⊥
IsStopped s t rest (Malformed place) = ⊥

-- of these messages, one at least, the first were offered, and there the reader stopped so
pub record HasStopped (s t : Standing) (close : Close) (messages : List Message) : Type 0 where
  pub same : IsSame s t
  pub some : messages ≢ []
  pub offered : List Message
  pub rest : List Message
  pub all : messages ≡ offered ++ rest
  pub offers : Offers s.extent s.says s.inquiries t.inquiries s.pass t.pass t.refused offered 4 1
  pub why : IsStopped s t rest close

-- one message more was taken, and what is open behind it was asked, as far as that extent goes, which is the first question where that
-- is asked each time
abbrev pub TakesOne : Extent → Message → Standing → Standing → Type 0
TakesOne extent m old new = (first : Standing) (before : List Message) → (old.extent ≡ First → extent ≡ First) → HasTaken first old before
    → HasTaken first new (before ++ m ∷ []) × LeavesNone extent new.pass

-- the reader stopped at it
abbrev pub StopsAt : Extent → Message → Standing → Standing → Close → Type 0
StopsAt extent m old new close = (first : Standing) (before : List Message) → (old.extent ≡ First → extent ≡ First) → HasTaken first old before
    → HasStopped first new close (before ++ m ∷ [])

-- The last message, which is there unless no other was, was taken too, all that was open then was asked, and the reader ends as
-- its source did; or it stopped there.
abbrev pub TakesLast : Close → Option Message → Standing → Standing → Close → Type 0
TakesLast close last old new now = (first : Standing) (messages : List Message) → HasTaken first old messages → (last ≡ None → messages ≡ [])
    → (HasTaken first new (messages ++ all_of last) × AreAsked first.pass new.pass (messages ++ all_of last) × (now ≡ close)) ⊎ HasStopped first new now (messages ++ all_of last)

-- how the reader ends where its source has closed so
abbrev pub Finishes : FeedClose Close → Option Message → Standing → Standing → Close → Type 0
Finishes feed.End last old new now = TakesLast End last old new now
Finishes (feed.Bad bad) last old new now = TakesLast (Bad bad) last old new now
Finishes feed.ReadFault last old new now = TakesLast ReadFault last old new now
Finishes feed.LimitReached last old new now = (now ≡ LimitReached) × (new ≡ old)
Finishes feed.OutOfMemory last old new now = (now ≡ OutOfMemory) × (new ≡ old)
Finishes (feed.Stopped stop) last old new now = (now ≡ stop) × (new ≡ old)
