-- What serving a link does.
use Rattle.std.specs.Prelude.{◌≡◌, ℕ, ◌≤◌, ◌⊎◌, List, ◌∷◌, [], ◌++◌, length}
use Rattle.std.specs.declared.option.Option.{Option}
use Rattle.cesr_stream.specs.declared.message.Message.{Message}
use Rattle.cesr_stream.specs.Assembly.{all_of}
use Rattle.cesr_stream.specs.Items.{Placed}
use Rattle.cesr_stream.specs.Messages.{messages}
use Rattle.cesr_stream.specs.Reading.{Reading}
use Rattle.journal.specs.Journal.Feeds.{AreFirst, AreMessages}
use Rattle.keri_outside.specs.declared.limits.Limits.{Limits}
use Rattle.run_status.specs.MessageFeed.Closing.{ClosesBy, Gave}
use Rattle.run_status.specs.MessageFeed.Feeds.{Stream}
use Rattle.run_status.specs.declared.message_feed.feed_close.FeedClose.{FeedClose}
use Rattle.run_status.specs.declared.message_feed.feed_close.FeedClose.TheVariants as feed
use Rattle.keri_outside.specs.Shown.{SinkShown, SourceShown, sink_shown, source_shown}
use Rattle.run_status.specs.declared.run_status.close.Close.{Close}
use Rattle.run_status.specs.declared.run_status.close.Close.TheVariants.{End, Bad, ReadFault, VerifierFault, SignerFault, DiskFault, WriteFault, Malformed, LimitReached, OutOfMemory}
use Rattle.witness_core.specs.declared.witness_link.link_end.LinkEnd.{LinkEnd}
use Rattle.witness_core.specs.declared.witness_link.notes.Notes.{Notes}
use Rattle.witness_core.specs.declared.witness_store.witness_fault.WitnessFault.{WitnessFault}
use Rattle.witness_core.specs.declared.witness_store.witness_fault.WitnessFault.TheVariants as fault
use Rattle.witness_core.specs.WitnessLink.Calls.{messages_in, receipts_in}
use Rattle.witness_core.specs.WitnessLink.Links.{LinkShown, ServiceShown, terms_of, shown_noting, shown_of_link}
use Rattle.witness_core.specs.WitnessLink.Serving.{FailsToPut, FailsToTake, GoesOn, Serves}
use Rattle.witness_core.specs.WitnessLink.Stored.{HoldsEach}

module _ (limits : Limits) (source_old source_new : SourceShown) (bytes : List ℕ) where
  -- these are all messages of the bytes, and reading the source closed by this cause
  pub record ReadsAll (all : List Message) (close : FeedClose Close) : Type 0 where
    pub messages_are : AreMessages limits bytes all
    pub reading : Reading
    pub items : List Placed
    pub stream : Stream limits bytes reading items
    pub closes : ClosesBy limits.stream_bytes source_old.left source_new.left source_old.faults source_new.faults bytes reading close

  -- so many bytes were read as may be, and the source gave more; these are all messages but maybe the last, to which more might
  -- come
  pub record ReadsMost (first : List Message) : Type 0 where
    pub reading : Reading
    pub items : List Placed
    pub stream : Stream limits bytes reading items
    pub closes : ClosesBy {T = Close} limits.stream_bytes source_old.left source_new.left source_old.faults source_new.faults bytes reading feed.LimitReached
    pub last : Option Message
    pub all : first ++ all_of last ≡ messages limits.message_signatures items

  -- the source gave the bytes, and these are their first messages
  pub record ReadsFirst (first : List Message) : Type 0 where
    pub gave : Gave source_old.left source_new.left bytes
    pub messages_are : AreFirst limits bytes first

  module _ (old new : LinkShown) (serves : Serves old new) where
    -- the witness failed at the message that comes behind those taken
    pub record StopsAtNext (why : WitnessFault) : Type 0 where
      pub next : Message
      pub reads : ReadsFirst (messages_in serves.calls ++ next ∷ [])
      pub fails : FailsToTake old new serves why next

    -- Why a link closes: by its source, when all its messages were taken; by the sink's fault, when the receipts of the last one
    -- were put; by a fault of the witness at the next one; by want of memory; or because a limit was reached, of the bytes that are
    -- read or of what is taken, at the next message.
    abbrev pub ClosesLink : Close → Type 0
    ClosesLink End = ReadsAll (messages_in serves.calls) feed.End × GoesOn old new serves
    ClosesLink (Bad bad) = ReadsAll (messages_in serves.calls) (feed.Bad bad) × GoesOn old new serves
    ClosesLink ReadFault = ReadsAll (messages_in serves.calls) feed.ReadFault × GoesOn old new serves
    ClosesLink WriteFault = ReadsFirst (messages_in serves.calls) × FailsToPut old new serves
    ClosesLink VerifierFault = StopsAtNext fault.VerifierFault
    ClosesLink SignerFault = StopsAtNext fault.SignerFault
    ClosesLink DiskFault = StopsAtNext fault.DiskFault
    ClosesLink LimitReached = (ReadsMost (messages_in serves.calls) × GoesOn old new serves) ⊎ StopsAtNext fault.LimitReached
    ClosesLink OutOfMemory = GoesOn old new serves ⊎ StopsAtNext fault.OutOfMemory
    ClosesLink (Malformed place) = ⊥

-- SERVES A LINK: The source gave these bytes, at most as many as may be, and maybe more. Their first messages were taken in order,
-- and the link closes by its cause. Whatever that is, each image of the disk has the event of each receipt.
pub record ServesLink (limits : Limits) (source_old source_new : SourceShown) (old new : LinkShown) (close : Close) : Type 0 where
  pub serves : Serves old new
  pub bytes : List ℕ
  pub more : List ℕ
  pub gave : Gave source_old.left source_new.left (bytes ++ more)
  pub few : length bytes ≤ limits.stream_bytes
  pub messages_are : AreFirst limits bytes (messages_in serves.calls)
  pub closes : ClosesLink limits source_old source_new bytes old new serves close
  pub held : (c : List ℕ) → new.witness.disk.images c → HoldsEach (terms_of old) (receipts_in serves.calls) c

-- a link was served that ended so, and nothing was noted before
abbrev pub ServesLinkTo : Limits → SourceShown → SourceShown → ServiceShown → ServiceShown → SinkShown → SinkShown → LinkEnd → Type 0
ServesLinkTo limits source_old source_new old new sink_old sink_new end =
    ServesLink limits source_old source_new (shown_of_link old sink_old [] []) (shown_of_link new sink_new end.refused.items end.seen.items) end.close

-- a link was served with the objects that lend it, and what was noted before stands before the new notes
abbrev pub ServesNoting : {S W K : Type 0} → (S → Option (List ℕ)) → (S → ℕ) → (W → ServiceShown) → (K → Option (List ℕ)) → (K → ℕ) → Limits → S → S → W → W → K → K → Notes → Notes → Close → Type 0
ServesNoting left faults service_seen written sink_faults limits source_old source_new old new sink_old sink_new notes_old notes_new close =
    ServesLink limits (source_shown left faults source_old) (source_shown left faults source_new)
    (shown_noting (service_seen old) (sink_shown written sink_faults sink_old) notes_old)
    (shown_noting (service_seen new) (sink_shown written sink_faults sink_new) notes_new) close
