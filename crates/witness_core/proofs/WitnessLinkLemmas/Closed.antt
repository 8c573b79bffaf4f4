-- How a link closes, by how its source was read and how the last message was served.
use Rattle.std.proofs.Common.{◌≡◌, ◌≤◌, ℕ, ◌⊎◌, inl, inr, List, [], ◌∷◌, ◌++◌, length, Option, Some, None, refl, sym, ◌∙◌, ap, subst, append-nil, append_assoc, arith}
use Rattle.std.proofs.lemmas.List.{map-append}
use Rattle.cesr_codes.specs.declared.digest.Digest.{Digest}
use Rattle.cesr_stream.specs.declared.message.Message.{Message}
use Rattle.cesr_stream.specs.Assembly.{all_of}
use Rattle.cesr_stream.specs.Items.{Placed, IsEnd}
use Rattle.cesr_stream.specs.Messages.{messages}
use Rattle.cesr_stream.specs.Reading.{Reading, judged}
use Rattle.journal.specs.Journal.Feeds.{AreFirst}
use Rattle.journal.specs.declared.journal.refusal.Refusal.{Refusal}
use Rattle.keri_outside.specs.declared.limits.Limits.{Limits}
use Rattle.run_status.specs.MessageFeed.Closing.{ClosesBy, Gave}
use Rattle.run_status.specs.MessageFeed.Feeds.{Feeds, Stream}
use Rattle.run_status.specs.declared.message_feed.feed_close.FeedClose.{FeedClose}
use Rattle.run_status.specs.declared.message_feed.feed_close.FeedClose.TheVariants as feed
use Rattle.keri_outside.specs.Shown.{SinkShown, SourceShown}
use Rattle.run_status.specs.declared.run_status.close.Close.{Close}
use Rattle.run_status.specs.declared.run_status.close.Close.TheVariants.{End, Bad, ReadFault, VerifierFault, SignerFault, DiskFault, WriteFault, Malformed, LimitReached, OutOfMemory}
use Rattle.witness_core.specs.declared.witness_store.witness_fault.WitnessFault.{WitnessFault}
use Rattle.witness_core.specs.declared.witness_store.witness_fault.WitnessFault.TheVariants as fault
use Rattle.witness_core.specs.WitnessLink.Calls.{Call, messages_in, receipts_in}
use Rattle.witness_core.specs.WitnessLink.Links.{LinkShown, ServiceShown, terms_of, shown_of_link}
use Rattle.witness_core.specs.WitnessLink.Offered.{Finishes, HasStopped, HasTaken, LendsSame, link_shown}
use Rattle.witness_core.specs.WitnessLink.Served.{ClosesLink, ReadsAll, ServesLink, StopsAtNext}
use Rattle.witness_core.specs.WitnessLink.Serving.{GoesOn, HasEnded, HasServed, Serves, StopsTaking}
use Rattle.witness_core.specs.declared.witness_link.link.Link.{Link}
use Rattle.witness_core.proofs.WitnessLinkLemmas.Storing.{held_each}
use Rattle.witness_core.proofs.WitnessLinkLemmas.Streams.{all_from, at_bad, at_end, first_none, first_of, some_open}

module _ (limits : Limits) (source_old source_new : SourceShown) (old new : LinkShown) where
  -- these bytes were read, and maybe more
  link_by : (close : Close) (s : Serves old new) (bytes more : List ℕ) → Gave source_old.left source_new.left (bytes ++ more) → length bytes ≤ limits.stream_bytes → AreFirst limits bytes (messages_in s.calls)
      → ClosesLink limits source_old source_new bytes old new s close → ServesLink limits source_old source_new old new close
  link_by close s bytes more gave few are closes = record {
    serves = s;
    bytes = bytes;
    more = more;
    gave = gave;
    few = few;
    messages_are = are;
    closes = closes;
    held = held_each (terms_of old) old.witness.list old.witness.disk new.witness.core new.witness.list new.witness.disk (receipts_in s.calls) s.stores s.lawful s.of_stored;
  }

  -- there was no memory to read on, and no message was open
  link_out : (bytes : List ℕ) → HasServed old new [] → Gave source_old.left source_new.left bytes → ServesLink limits source_old source_new old new OutOfMemory
  link_out bytes h gave = link_by OutOfMemory h.serves [] bytes gave (omega arith) (subst (AreFirst limits []) (sym h.messages_are) (first_none limits)) (inl h.goes_on)

  module _ (bytes : List ℕ) (reading : Reading) (items : List Placed) (stream : Stream limits bytes reading items) where
    -- all messages were taken
    link_all : (source_close : FeedClose Close) (close : Close) (messages_all : List Message) (h : HasServed old new messages_all) → messages_all ≡ messages limits.message_signatures items → IsEnd (judged reading)
        → ClosesBy limits.stream_bytes source_old.left source_new.left source_old.faults source_new.faults bytes reading source_close → Gave source_old.left source_new.left bytes
        → (ReadsAll limits source_old source_new bytes (messages_in h.serves.calls) source_close × GoesOn old new h.serves → ClosesLink limits source_old source_new bytes old new h.serves close)
        → ServesLink limits source_old source_new old new close
    link_all source_close close messages_all h all ends closes gave gives =
        let made : messages_in h.serves.calls ≡ messages limits.message_signatures items = h.messages_are ∙ all in
        link_by close h.serves bytes [] (subst (Gave source_old.left source_new.left) (sym (append-nil bytes)) gave) stream.few
        (first_of limits bytes reading items stream (messages_in h.serves.calls) [] (append-nil (messages_in h.serves.calls) ∙ made) (λ none. ends))
        (gives (
          record { messages_are = all_from limits bytes reading items stream (messages_in h.serves.calls) made ends; reading = reading; items = items; stream = stream; closes = closes },
          h.goes_on,
        ))

    module _ (served later : List Message) (made : served ++ later ≡ messages limits.message_signatures items)
        (whole : later ≡ [] → (earlier : List Message) (m : Message) → served ≡ earlier ++ m ∷ [] → IsEnd (judged reading)) (gave : Gave source_old.left source_new.left bytes) where
      gave_all : Gave source_old.left source_new.left (bytes ++ [])
      gave_all = subst (Gave source_old.left source_new.left) (sym (append-nil bytes)) gave

      -- the witness failed at the last of these messages
      link_failed : (why : WitnessFault) (close : Close) (s : Serves old new) → StopsTaking old new s why served
          → (StopsAtNext limits source_old source_new bytes old new s why → ClosesLink limits source_old source_new bytes old new s close) → ServesLink limits source_old source_new old new close
      link_failed why close s stops gives =
          let behind : messages_in s.calls ++ (stops.0 ∷ later) ≡ messages limits.message_signatures items
          = sym (append_assoc (messages_in s.calls) (stops.0 ∷ []) later) ∙ ap (λ l. l ++ later) (sym stops.1) ∙ made in
          let next : AreFirst limits bytes served = first_of limits bytes reading items stream served later made (λ none. whole none (messages_in s.calls) stops.0 stops.1) in
          link_by close s bytes [] gave_all stream.few (first_of limits bytes reading items stream (messages_in s.calls) (stops.0 ∷ later) behind (λ e. cc))
          (gives (record { next = stops.0; reads = record { gave = gave; messages_are = subst (AreFirst limits bytes) stops.1 next }; fails = stops.2 }))

      -- ENDED: serving stopped at the last of these messages
      link_ended : (close : Close) → HasEnded old new close served → ServesLink limits source_old source_new old new close
      link_ended VerifierFault h = link_failed fault.VerifierFault VerifierFault h.serves h.stops (λ c. c)
      link_ended SignerFault h = link_failed fault.SignerFault SignerFault h.serves h.stops (λ c. c)
      link_ended DiskFault h = link_failed fault.DiskFault DiskFault h.serves h.stops (λ c. c)
      link_ended LimitReached h = link_failed fault.LimitReached LimitReached h.serves h.stops inr
      link_ended OutOfMemory h = link_failed fault.OutOfMemory OutOfMemory h.serves h.stops inr
      link_ended WriteFault h =
          let put = h.stops.1 in
          let is : served ≡ messages_in put.earlier ++ put.last.message ∷ [] = h.stops.0 ∙ ap messages_in put.all ∙ map-append (λ (c : Call). c.message) put.earlier (put.last ∷ []) in
          let are : AreFirst limits bytes (messages_in h.serves.calls) = subst (AreFirst limits bytes) h.stops.0
          (first_of limits bytes reading items stream served later made (λ none. whole none (messages_in put.earlier) put.last.message is)) in
          link_by WriteFault h.serves bytes [] gave_all stream.few are (record { gave = gave; messages_are = are }, put)
      link_ended End h = absurd h.stops
      link_ended (Bad bad) h = absurd h.stops
      link_ended ReadFault h = absurd h.stops
      link_ended (Malformed place) h = absurd h.stops

    -- the source was read as far as it goes, and the last message was served too, or serving stopped there
    link_read : (source_close : FeedClose Close) (close now : Close) (served : List Message) → (HasServed old new served × (now ≡ close)) ⊎ HasEnded old new now served
        → served ≡ messages limits.message_signatures items → IsEnd (judged reading)
        → ClosesBy limits.stream_bytes source_old.left source_new.left source_old.faults source_new.faults bytes reading source_close → Gave source_old.left source_new.left bytes
        → ((s : Serves old new) → ReadsAll limits source_old source_new bytes (messages_in s.calls) source_close × GoesOn old new s → ClosesLink limits source_old source_new bytes old new s close)
        → ServesLink limits source_old source_new old new now
    link_read source_close close now served (inl h) all ends closes gave gives =
        subst (ServesLink limits source_old source_new old new) (sym h.1) (link_all source_close close served h.0 all ends closes gave (gives h.0.serves))
    link_read source_close close now served (inr h) all ends closes gave gives =
        link_ended served [] (append-nil served ∙ all) (λ none earlier m e. ends) gave now h

module _ {W K : Type 0} (service_seen : W → ServiceShown) (written : K → Option (List ℕ)) (sink_faults : K → ℕ)
    (limits : Limits) (source_old source_new : SourceShown) (first middle new : Link W K) where
  abbrev shown : Link W K → LinkShown
  shown link = link_shown service_seen written sink_faults link

  abbrev Taken : Link W K → Link W K → List Message → Type 0
  Taken = HasTaken service_seen written sink_faults

  abbrev Stopped : Link W K → Link W K → Close → List Message → Type 0
  Stopped = HasStopped service_seen written sink_faults

  -- what was served, without what lends it
  either : (close now : Close) (served : List Message) → (Taken first new served × (now ≡ close)) ⊎ Stopped first new now served
      → (HasServed (shown first) (shown new) served × (now ≡ close)) ⊎ HasEnded (shown first) (shown new) now served
  either close now served (inl t) = inl (t.0.served, t.1)
  either close now served (inr s) = inr s.ended

  -- nothing has changed since the source was read
  unmoved : (close now : Close) → now ≡ close → new ≡ middle → ServesLink limits source_old source_new (shown first) (shown middle) close → ServesLink limits source_old source_new (shown first) (shown new) now
  unmoved close now same kept s =
      subst (ServesLink limits source_old source_new (shown first) (shown new)) (sym same) (subst (λ link. ServesLink limits source_old source_new (shown first) (shown link) close) (sym kept) s)

  -- CLOSED: a link was served
  pub link_closed : (source_close : FeedClose Close) (now : Close) (last : Option Message)
      → Feeds (Taken first) (Stopped first) limits source_old.left source_new.left source_old.faults source_new.faults middle source_close last
      → Finishes service_seen written sink_faults source_close last middle new now
      → ServesLink limits source_old source_new (shown first) (shown new) now
  link_closed feed.End now last f e =
      link_read limits source_old source_new (shown first) (shown new) f.fed f.reading f.items f.stream feed.End End now (f.answered ++ all_of last)
      (either End now (f.answered ++ all_of last) (e first f.answered f.takes)) f.all (at_end f.reading f.closes.2) f.closes f.closes.0 (λ s c. c)
  link_closed (feed.Bad bad) now last f e =
      link_read limits source_old source_new (shown first) (shown new) f.fed f.reading f.items f.stream (feed.Bad bad) (Bad bad) now (f.answered ++ all_of last)
      (either (Bad bad) now (f.answered ++ all_of last) (e first f.answered f.takes)) f.all (at_bad source_new.left f.reading bad f.closes.1) f.closes f.closes.0 (λ s c. c)
  link_closed feed.ReadFault now last f e =
      link_read limits source_old source_new (shown first) (shown new) f.fed f.reading f.items f.stream feed.ReadFault ReadFault now (f.answered ++ all_of last)
      (either ReadFault now (f.answered ++ all_of last) (e first f.answered f.takes)) f.all (rw f.closes.2 tt) f.closes f.closes.0 (λ s c. c)
  link_closed feed.LimitReached now last f e =
      let h = f.takes.served in
      let are = h.messages_are in
      let made : messages_in h.serves.calls ++ all_of last ≡ messages limits.message_signatures f.items = ap (λ l. l ++ all_of last) are ∙ f.all in
      unmoved LimitReached now e.0 e.1
      (link_by limits source_old source_new (shown first) (shown middle) LimitReached h.serves f.fed (f.closes.0.more ∷ []) f.closes.0.gave f.stream.few
      (first_of limits f.fed f.reading f.items f.stream (messages_in h.serves.calls) (all_of last) made (λ none. rw f.closes.0.unfinished_item tt))
      (inl (record { reading = f.reading; items = f.items; stream = f.stream; closes = f.closes; last = last; all = made }, h.goes_on)))
  link_closed feed.OutOfMemory now last f e = unmoved OutOfMemory now e.0 e.1 (out last f.begun f.all)
    where
      out : (last : Option Message) → (last ≡ None → messages limits.message_signatures f.items ≡ []) → f.answered ++ all_of last ≡ messages limits.message_signatures f.items
          → ServesLink limits source_old source_new (shown first) (shown middle) OutOfMemory
      out (Some message) begun all =
          let h = f.takes.served in
          link_by limits source_old source_new (shown first) (shown middle) OutOfMemory h.serves f.fed f.closes.0 f.closes.1 f.stream.few
          (first_of limits f.fed f.reading f.items f.stream (messages_in h.serves.calls) (message ∷ []) (ap (λ l. l ++ message ∷ []) h.messages_are ∙ all) (λ e. cc)) (inl h.goes_on)
      out None begun all =
          let nothing : f.answered ≡ [] = sym (append-nil f.answered) ∙ (all ∙ begun refl) in
          link_out limits source_old source_new (shown first) (shown middle) (f.fed ++ f.closes.0) (subst (HasServed (shown first) (shown middle)) nothing f.takes.served) f.closes.1
  link_closed (feed.Stopped stop) now last f e = unmoved stop now e.0 e.1
      (link_ended limits source_old source_new (shown first) (shown middle) f.fed f.reading f.items f.stream f.answered (all_of last) f.all
      (λ none earlier m is. absurd (some_open last f.answered none earlier m is f.begun f.all)) f.closes stop f.takes.ended)

  lent : {close now : Close} {served : List Message} → (Taken first new served × (now ≡ close)) ⊎ Stopped first new now served → LendsSame first new
  lent (inl t) = t.0.same
  lent (inr s) = s.same

  -- and the same objects were lent
  pub lent_same : (source_close : FeedClose Close) (now : Close) (last : Option Message)
      → Feeds (Taken first) (Stopped first) limits source_old.left source_new.left source_old.faults source_new.faults middle source_close last
      → Finishes service_seen written sink_faults source_close last middle new now → LendsSame first new
  lent_same feed.End now last f e = lent (e first f.answered f.takes)
  lent_same (feed.Bad bad) now last f e = lent (e first f.answered f.takes)
  lent_same feed.ReadFault now last f e = lent (e first f.answered f.takes)
  lent_same feed.LimitReached now last f e = subst (LendsSame first) (sym e.1) f.takes.same
  lent_same feed.OutOfMemory now last f e = subst (LendsSame first) (sym e.1) f.takes.same
  lent_same (feed.Stopped stop) now last f e = subst (LendsSame first) (sym e.1) f.takes.same

-- nothing was noted before
pub from_none : (limits : Limits) (source_old source_new : SourceShown) (service : ServiceShown) (sink : SinkShown) (refused : List Refusal) (seen : List Digest) (new : LinkShown) (close : Close) → refused ≡ [] → seen ≡ []
    → ServesLink limits source_old source_new (shown_of_link service sink refused seen) new close
    → ServesLink limits source_old source_new (shown_of_link service sink [] []) new close
from_none limits source_old source_new service sink refused seen new close none_refused none_seen s =
    subst (λ l. ServesLink limits source_old source_new (shown_of_link service sink [] l) new close) none_seen
    (subst (λ l. ServesLink limits source_old source_new (shown_of_link service sink l seen) new close) none_refused s)
