-- What stands while messages are handed to a link.
use Rattle.std.specs.Prelude.{◌≡◌, ℕ, ◌⊎◌, List, ◌++◌, Option}
use Rattle.cesr_stream.specs.declared.message.Message.{Message}
use Rattle.cesr_stream.specs.Assembly.{all_of}
use Rattle.run_status.specs.declared.message_feed.feed_close.FeedClose.{FeedClose}
use Rattle.run_status.specs.declared.message_feed.feed_close.FeedClose.TheVariants as feed
use Rattle.keri_outside.specs.Shown.{sink_shown}
use Rattle.run_status.specs.declared.run_status.close.Close.{Close}
use Rattle.run_status.specs.declared.run_status.close.Close.TheVariants.{End, Bad, ReadFault, LimitReached, OutOfMemory}
use Rattle.witness_core.specs.WitnessLink.Links.{LinkShown, ServiceShown, shown_noting}
use Rattle.witness_core.specs.WitnessLink.Serving.{HasEnded, HasServed}
use Rattle.witness_core.specs.declared.witness_link.link.Link.{Link}

-- the link lends the same objects
pub record LendsSame {W K : Type 0} (first now : Link W K) : Type 0 where
  pub service : now.service.ghost_name ≡ first.service.ghost_name
  pub sink : now.sink.ghost_name ≡ first.sink.ghost_name
  pub notes : now.notes.ghost_name ≡ first.notes.ghost_name

module _ {W K : Type 0} (service_seen : W → ServiceShown) (written : K → Option (List ℕ)) (sink_faults : K → ℕ) where
  -- what is seen of a link
  abbrev pub link_shown : Link W K → LinkShown
  link_shown link = shown_noting (service_seen link.service.now) (sink_shown written sink_faults link.sink.now) link.notes.now

  -- since it had the first of these values it has served these messages
  pub record HasTaken (first now : Link W K) (messages : List Message) : Type 0 where
    pub same : LendsSame first now
    pub served : HasServed (link_shown first) (link_shown now) messages

  -- since then it has stopped so at the last of them
  pub record HasStopped (first now : Link W K) (close : Close) (messages : List Message) : Type 0 where
    pub same : LendsSame first now
    pub ended : HasEnded (link_shown first) (link_shown now) close messages

  -- the last message, where there is one, was served too, and the link closes as its source did; or serving stopped there
  abbrev pub TakesLast : Close → Option Message → Link W K → Link W K → Close → Type 0
  TakesLast close last old new now = (first : Link W K) (messages : List Message) → HasTaken first old messages
      → (HasTaken first new (messages ++ all_of last) × (now ≡ close)) ⊎ HasStopped first new now (messages ++ all_of last)

  -- how the link closes where its source has closed so
  abbrev pub Finishes : FeedClose Close → Option Message → Link W K → Link W K → Close → Type 0
  Finishes feed.End last old new now = TakesLast End last old new now
  Finishes (feed.Bad bad) last old new now = TakesLast (Bad bad) last old new now
  Finishes feed.ReadFault last old new now = TakesLast ReadFault last old new now
  Finishes feed.LimitReached last old new now = (now ≡ LimitReached) × (new ≡ old)
  Finishes feed.OutOfMemory last old new now = (now ≡ OutOfMemory) × (new ≡ old)
  Finishes (feed.Stopped stop) last old new now = (now ≡ stop) × (new ≡ old)
