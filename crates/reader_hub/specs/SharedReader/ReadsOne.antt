-- What one reader does.
use Rattle.std.specs.Prelude.{◌≡◌, ◌≢◌, ℕ, suc, ◌+◌, ◌*◌, ◌≤◌, ◌⊎◌, Bool, true, false, List, [], ◌∷◌, ◌++◌, length, map, filter, All}
use Rattle.std.specs.declared.option.Option.{Option}
use Rattle.std.specs.declared.option.Option.TheVariants.{Some}
use Rattle.lists.specs.KeriSpecs.Causes.{Rose}
use Rattle.cesr_stream.specs.declared.message.Message.{Message}
use Rattle.cesr_stream.specs.Assembly.{all_of}
use Rattle.cesr_stream.specs.Items.{Placed}
use Rattle.cesr_stream.specs.Messages.{messages}
use Rattle.cesr_stream.specs.Reading.{Reading}
use Rattle.keri_outside.specs.declared.limits.Limits.{Limits}
use Rattle.journal.specs.Journal.Feeds as feeds
use Rattle.journal.specs.Journal.Feeds.{AreFirst, Feeds, is_taken_by}
use Rattle.journal.specs.Journal.History.{Told}
use Rattle.run_status.specs.MessageFeed.Closing.{ClosesBy, Gave}
use Rattle.run_status.specs.MessageFeed.Feeds.{Stream}
use Rattle.run_status.specs.declared.message_feed.feed_close.FeedClose.{FeedClose}
use Rattle.run_status.specs.declared.message_feed.feed_close.FeedClose.TheVariants as feed
use Rattle.turn_lock.specs.Known.{OwnsAlone}
use Rattle.reader_hub.specs.ReaderHub.Hubs.{HubPass}
use Rattle.reader_hub.specs.declared.reader_hub.extent.Extent.TheVariants.{First}
use Rattle.keri_outside.specs.Shown.{SourceShown}
use Rattle.run_status.specs.declared.run_status.close.Close.{Close}
use Rattle.run_status.specs.declared.run_status.close.Close.TheVariants.{End, Bad, ReadFault, VerifierFault, SignerFault, DiskFault, WriteFault, Malformed, LimitReached, OutOfMemory}
use Rattle.reader_hub.specs.SharedReader.Asks.{AsksFor, AsksOnlySeen, Stays, verdict_count}
use Rattle.reader_hub.specs.SharedReader.Offers.{IsEntryOf, IsTurnedAway}
use Rattle.reader_hub.specs.SharedReader.Steps.{StepsAlone}
use Rattle.reader_hub.specs.SharedReader.Taken.{AreAsked, IsSame, Standing}

-- the reader was stopped before it had taken all that it read
abbrev pub is_stopped : Close → Bool
is_stopped End = false
is_stopped (Bad bad) = false
is_stopped ReadFault = false
is_stopped VerifierFault = true
is_stopped SignerFault = true
is_stopped DiskFault = true
is_stopped WriteFault = true
is_stopped (Malformed place) = false
is_stopped LimitReached = true
is_stopped OutOfMemory = true

-- the end of a reader that read these bytes
abbrev pub end_of : List ℕ → Standing → Close → feeds.End
end_of bytes t close = record { bytes = Some bytes; says = t.says; refused = t.refused; stopped = is_stopped close }

-- all messages of the items were offered, but maybe the last, to which more might come
pub record LacksOnlyOpen (limits : Limits) (items : List Placed) (offered : List Message) : Type 0 where
  pub last : Option Message
  pub all : offered ++ all_of last ≡ messages limits.message_signatures items

-- a core that was told what the pass has seen would have no room for the message that comes behind those offered
pub record NextFindsNoRoom (limits : Limits) (bytes : List ℕ) (q : HubPass) (offered : List Message) : Type 0 where
  pub next : Message
  pub first : AreFirst limits bytes (offered ++ next ∷ [])
  pub turned_away : IsTurnedAway q next

module _ (limits : Limits) (s t : Standing) (old new : SourceShown) where
  -- the source closed the reading so, behind these bytes
  abbrev pub IsClosedSo : List ℕ → Reading → FeedClose ℕ → Type 0
  IsClosedSo bytes reading close = ClosesBy limits.stream_bytes old.left new.left old.faults new.faults bytes reading close

  -- Why the reader ended: by its source, and then all that was open behind the last message was asked; by its verifier's
  -- fault; or because a limit was reached: of the bytes that are read, where there were more, of what is taken, at the next
  -- message, or of the turns.
  abbrev pub EndsReader : List ℕ → Reading → List Placed → List Message → Close → Type 0
  EndsReader bytes reading items offered End = IsClosedSo bytes reading feed.End × AreAsked s.pass t.pass offered
  EndsReader bytes reading items offered (Bad bad) = IsClosedSo bytes reading (feed.Bad bad) × AreAsked s.pass t.pass offered
  EndsReader bytes reading items offered ReadFault = IsClosedSo bytes reading feed.ReadFault × AreAsked s.pass t.pass offered
  EndsReader bytes reading items offered LimitReached = (IsClosedSo bytes reading feed.LimitReached × LacksOnlyOpen limits items offered)
      ⊎ (Gave old.left new.left bytes × ((t.pass.past ≡ s.limit) ⊎ NextFindsNoRoom limits bytes t.pass offered))
  EndsReader bytes reading items offered VerifierFault = Gave old.left new.left bytes × Rose s.faults t.faults
  EndsReader bytes reading items offered SignerFault = ⊥
  EndsReader bytes reading items offered DiskFault = ⊥
  EndsReader bytes reading items offered WriteFault = ⊥
  EndsReader bytes reading items offered (Malformed place) = ⊥
  EndsReader bytes reading items offered OutOfMemory = ⊥

  -- These bytes were read, and the reader ended by its cause.
  pub record EndsStream (bytes : List ℕ) (offered : List Message) (close : Close) : Type 0 where
    pub reading : Reading
    pub items : List Placed
    pub stream : Stream limits bytes reading items
    pub closes : EndsReader bytes reading items offered close

  -- Of a lock for so many turns, and a pass with an empty share: the source gave the bytes, and maybe more. The first messages of
  -- the bytes were offered: those that aren't refused are the pass's entries, the others are noted. Its share has no other
  -- entries but verdicts, and they are what the verifier says. Unless there was no memory, the reader ended by its cause; and
  -- unless the verifier's fault ended it, that one never failed. The verifier was asked for the verdicts of the share, in order,
  -- and in all at most once for each verdict that the pass has seen, and once more; only what was told or open. At most two turns were
  -- taken for each message offered and for each verdict that the pass has seen, and four besides. Where the first question is asked each
  -- time, one reader alone is in step.
  pub record ReadsOne (close : Close) : Type 0 where
    pub same : IsSame s t
    pub stays : Stays s.pass t.pass
    pub share : List Told
    pub own : OwnsAlone t.pass share
    pub bytes : List ℕ
    pub more : List ℕ
    pub gave : Gave old.left new.left (bytes ++ more)
    pub feeds_are : Feeds limits share s.pass.number (end_of bytes t close) bytes
    pub each : All (IsEntryOf s.pass.number s.says) share
    pub closes : close ≢ OutOfMemory → EndsStream bytes (map (λ j. j.message) feeds_are.offered) close
    pub none_failed : close ≢ VerifierFault → t.faults ≡ s.faults
    pub inquired : AsksFor s.inquiries t.inquiries share (suc (verdict_count t.pass.seen))
    pub only : AsksOnlySeen s.inquiries t.inquiries t.pass
    pub alone : s.extent ≡ First → StepsAlone t.pass share
    pub turns : t.pass.turns ≤ s.pass.turns + 2 * (length (filter (is_taken_by s.pass.number) share) + length t.refused + verdict_count t.pass.seen + 2)
