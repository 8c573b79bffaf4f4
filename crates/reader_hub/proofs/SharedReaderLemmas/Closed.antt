-- What a reader read, as it ended.
use Rattle.std.proofs.Common.{◌≡◌, ◌≢◌, ℕ, ◌+◌, ◌⊎◌, inl, inr, false, List, [], ◌∷◌, ◌++◌, Option, Some, None, Result, Ok, Err, length, length-append, refl, sym, ◌∙◌, ap, subst, arith, append-nil, append_assoc}
use Rattle.std.specs.Prelude.{flat_map}
use Rattle.cesr_stream.specs.declared.message.Message.{Message}
use Rattle.cesr_stream.specs.Assembly.{all_of}
use Rattle.cesr_stream.specs.Items.{Placed, IsEnd}
use Rattle.cesr_stream.specs.Messages.{messages}
use Rattle.cesr_stream.specs.Reading.{Reading, judged}
use Rattle.event_body.specs.declared.event_body.event.Event.{Event}
use Rattle.event_body.specs.declared.event_body.body_fault.BodyFault.{BodyFault}
use Rattle.keri_outside.specs.declared.limits.Limits.{Limits}
use Rattle.journal.specs.declared.journal.reply.Reason.{Reason}
use Rattle.journal.specs.Journal.Feeds.{AreFirst, AreMessages, Judged, entry_of, entry_unless, noted_at, refusal_of}
use Rattle.journal.specs.Journal.Replies.{refusal}
use Rattle.run_status.specs.MessageFeed.Closing.{Gave}
use Rattle.run_status.specs.MessageFeed.Feeds.{Feeds, Stream}
use Rattle.run_status.specs.declared.message_feed.feed_close.FeedClose.{FeedClose}
use Rattle.run_status.specs.declared.message_feed.feed_close.FeedClose.TheVariants as feed
use Rattle.keri_outside.specs.Shown.{SourceShown}
use Rattle.run_status.specs.declared.run_status.close.Close.{Close}
use Rattle.run_status.specs.declared.run_status.close.Close.TheVariants.{End, Bad, ReadFault, VerifierFault, SignerFault, DiskFault, WriteFault, Malformed, LimitReached, OutOfMemory}
use Rattle.reader_hub.specs.SharedReader.Offers.{Offers}
use Rattle.reader_hub.specs.SharedReader.ReadsOne.{EndsReader, EndsStream, ReadsOne, is_stopped}
use Rattle.reader_hub.specs.SharedReader.Taken.{AreAsked, Finishes, HasStopped, HasTaken, IsSame, IsStopped, Standing}
use Rattle.reader_hub.proofs.SharedReaderLemmas.Inquiries.{at_most}
use Rattle.reader_hub.proofs.SharedReaderLemmas.Offered.{offers_besides}
use Rattle.reader_hub.proofs.SharedReaderLemmas.Streams.{all_from, at_bad, at_end, first_none, first_of, some_open}

-- each message that was offered has its entry, or is noted
one_of : (n : ℕ) (m : Message) (gives : Result Event BodyFault) → length (entry_unless (refusal m gives) n m gives) + length (noted_at m.place (refusal m gives)) ≡ 1
unfolding refusal
one_of n m (Err fault) = refl
one_of n m (Ok e) = by_reason (refusal m (Ok e))
  where
    by_reason : (r : Option Reason) → length (entry_unless r n m (Ok e)) + length (noted_at m.place r) ≡ 1
    by_reason None = refl
    by_reason (Some reason) = refl

counted : (n : ℕ) (js : List Judged) → length (flat_map (entry_of n) js) + length (flat_map refusal_of js) ≡ length js
counted n [] = refl
counted n (j ∷ js) =
    let one = one_of n j.message j.gives in
    let rest = counted n js in
    let entries = length-append (entry_of n j) (flat_map (entry_of n) js) in
    let refusals = length-append (refusal_of j) (flat_map refusal_of js) in
    omega (arith, one, rest, entries, refusals)

none_behind : (xs ys : List Message) → xs ++ ys ≡ [] → ys ≡ []
none_behind [] ys e = e
none_behind (x ∷ xs) ys e = cc

-- where no message is open, none came
none_taken : (last : Option Message) (ms all : List Message) → ms ++ all_of last ≡ all → (last ≡ None → all ≡ []) → last ≡ None → ms ≡ []
none_taken None ms all made begun none = sym (append-nil ms) ∙ (made ∙ begun refl)
none_taken (Some m) ms all made begun none = cc

module _ (limits : Limits) (s t : Standing) (old new : SourceShown) where
  -- these messages were offered, the first of bytes that the source gave, and the reader ends so
  reads_by : (close : Close) (bytes more : List ℕ) (ms : List Message) → Offers s.extent s.says s.inquiries t.inquiries s.pass t.pass t.refused ms 4 1 → IsSame s t → AreFirst limits bytes ms
      → (is_stopped close ≡ false → AreMessages limits bytes ms) → Gave old.left new.left (bytes ++ more)
      → (close ≢ OutOfMemory → EndsStream limits s t old new bytes ms close) → (close ≢ VerifierFault → t.faults ≡ s.faults) → ReadsOne limits s t old new close
  reads_by close bytes more ms o same are all gave closes unfailed = record {
    same = same;
    stays = o.stays;
    share = o.share;
    own = o.own;
    bytes = bytes;
    more = more;
    gave = gave;
    feeds_are = record {
      offered = o.offered;
      first = rw o.messages_are are;
      bodies_are = o.bodies_are;
      taken = o.taken_are;
      refused = o.refused_are;
      all = λ unstopped. rw o.messages_are (all unstopped);
    };
    each = o.each;
    closes = λ some. rw o.messages_are (closes some);
    none_failed = unfailed;
    inquired = at_most s.inquiries t.inquiries o.share _ _ (omega arith) o.inquired;
    only = o.only;
    alone = o.alone;
    turns = (
        let turns = o.turns in
        let count = counted s.pass.number o.offered in
        let taken = ap length o.taken_are in
        let refused = ap length o.refused_are in
        omega (arith, turns, count, taken, refused)
        );
  }

  -- whatever ended the reader, its source gave what was read
  gave_by : (bytes : List ℕ) (reading : Reading) (items : List Placed) (ms : List Message) (close : Close) → EndsReader limits s t old new bytes reading items ms close → (more : List ℕ) × Gave old.left new.left (bytes ++ more)
  gave_by bytes reading items ms End c = ([], rw append-nil c.0.0)
  gave_by bytes reading items ms (Bad bad) c = ([], rw append-nil c.0.0)
  gave_by bytes reading items ms ReadFault c = ([], rw append-nil c.0.0)
  gave_by bytes reading items ms VerifierFault c = ([], rw append-nil c.0)
  gave_by bytes reading items ms LimitReached (inl full) = (full.0.0.more ∷ [], full.0.0.gave)
  gave_by bytes reading items ms LimitReached (inr limit) = ([], rw append-nil limit.0)
  gave_by bytes reading items ms SignerFault c = absurd c
  gave_by bytes reading items ms DiskFault c = absurd c
  gave_by bytes reading items ms WriteFault c = absurd c
  gave_by bytes reading items ms (Malformed place) c = absurd c
  gave_by bytes reading items ms OutOfMemory c = absurd c

  reads_out : (bytes more : List ℕ) (ms : List Message) → Offers s.extent s.says s.inquiries t.inquiries s.pass t.pass t.refused ms 4 1 → IsSame s t → AreFirst limits bytes ms → Gave old.left new.left (bytes ++ more) → t.faults ≡ s.faults
      → ReadsOne limits s t old new OutOfMemory
  reads_out bytes more ms o same are gave unfailed = reads_by OutOfMemory bytes more ms o same are (λ e. cc) gave (λ some. absurd (some refl)) (λ other. unfailed)

  module _ (bytes : List ℕ) (reading : Reading) (items : List Placed) (stream : Stream limits bytes reading items) where
    -- these messages were offered, others may come behind them, and the reader ends by this cause
    reads_so : (close : Close) (ms later : List Message) → Offers s.extent s.says s.inquiries t.inquiries s.pass t.pass t.refused ms 4 1 → IsSame s t → ms ++ later ≡ messages limits.message_signatures items → (later ≡ [] → IsEnd (judged reading))
        → (is_stopped close ≡ false → later ≡ []) → EndsReader limits s t old new bytes reading items ms close → (close ≢ VerifierFault → t.faults ≡ s.faults) → ReadsOne limits s t old new close
    reads_so close ms later o same made whole unless closes unfailed =
        let gave = gave_by bytes reading items ms close closes in
        reads_by close bytes gave.0 ms o same (first_of limits bytes reading items stream ms later made whole)
        (λ unstopped. all_from limits bytes reading items stream ms
        (sym (append-nil ms) ∙ (ap (λ l. ms ++ l) (sym (unless unstopped)) ∙ made)) (whole (unless unstopped)))
        gave.1 (λ some. record { reading = reading; items = items; stream = stream; closes = closes }) unfailed

    -- the reader stopped at the last of these messages
    reads_stopped : (close : Close) (ms later : List Message) → HasStopped s t close ms → ms ++ later ≡ messages limits.message_signatures items → (later ≡ [] → ms ≢ [] → IsEnd (judged reading))
        → Gave old.left new.left bytes → ReadsOne limits s t old new close
    reads_stopped close ms later h made whole gave = by_close close h.why
      where
        parts : h.offered ++ (h.rest ++ later) ≡ messages limits.message_signatures items
        parts = sym (append_assoc h.offered h.rest later) ∙ (ap (λ l. l ++ later) (sym h.all) ∙ made)

        ends : h.rest ++ later ≡ [] → IsEnd (judged reading)
        ends none = whole (none_behind h.rest later none) h.some

        by_close : (c : Close) → IsStopped s t h.rest c → ReadsOne limits s t old new c
        by_close VerifierFault why = reads_so VerifierFault h.offered (h.rest ++ later) h.offers h.same parts ends (λ e. cc) (gave, why) (λ other. absurd (other refl))
        by_close LimitReached (inl past, none) = reads_so LimitReached h.offered (h.rest ++ later) h.offers h.same parts ends (λ e. cc) (inr (gave, inl past)) (λ other. none)
        by_close LimitReached (inr room, none) =
            let next : h.offered ++ (room.next ∷ (room.later ++ later)) ≡ messages limits.message_signatures items = ap (λ l. h.offered ++ (l ++ later)) (sym room.rest_is) ∙ parts in
            let first = first_of limits bytes reading items stream (h.offered ++ room.next ∷ []) (room.later ++ later) (append_assoc h.offered (room.next ∷ []) (room.later ++ later) ∙ next)
            (λ none. whole (none_behind room.later later none) h.some) in
            reads_so LimitReached h.offered (h.rest ++ later) h.offers h.same parts ends (λ e. cc) (inr (gave, inr (record { next = room.next; first = first; turned_away = room.turned_away }))) (λ other. none)
        by_close OutOfMemory why = reads_out bytes [] h.offered h.offers h.same (first_of limits bytes reading items stream h.offered (h.rest ++ later) parts ends) (rw append-nil gave) why
        by_close End why = absurd why
        by_close (Bad bad) why = absurd why
        by_close ReadFault why = absurd why
        by_close SignerFault why = absurd why
        by_close DiskFault why = absurd why
        by_close WriteFault why = absurd why
        by_close (Malformed place) why = absurd why

    -- the source was read as far as it goes, and the last message was taken too, or the reader stopped there
    reads_ended : (source_close close : Close) (ms : List Message) → (HasTaken s t ms × AreAsked s.pass t.pass ms × (close ≡ source_close)) ⊎ HasStopped s t close ms → ms ≡ messages limits.message_signatures items → IsEnd (judged reading)
        → Gave old.left new.left bytes → (AreAsked s.pass t.pass ms → EndsReader limits s t old new bytes reading items ms source_close) → ReadsOne limits s t old new close
    reads_ended source_close close ms (inl taken) all ends gave closes =
        subst (λ c. ReadsOne limits s t old new c) (sym taken.2)
        (reads_so source_close ms [] (offers_besides s.extent s.says s.inquiries t.inquiries s.pass t.pass t.refused ms 0 4 0 1 (omega arith) (omega arith) taken.0.offers) taken.0.same (append-nil ms ∙ all) (λ none. ends) (λ unstopped. refl)
        (closes taken.1) (λ other. taken.0.none_failed))
    reads_ended source_close close ms (inr stopped) all ends gave closes = reads_stopped close ms [] stopped (append-nil ms ∙ all) (λ none some. ends) gave

-- a stream was read
pub reads_stream : {T : Type 0} (seen : T → Standing) (limits : Limits) (s t : Standing) (old new : SourceShown) (taker : T) (source_close : FeedClose Close) (close : Close) (last : Option Message)
    → Feeds (λ x ms. HasTaken s (seen x) ms) (λ x c ms. HasStopped s (seen x) c ms) limits old.left new.left old.faults new.faults taker source_close last
    → Finishes source_close last (seen taker) t close → ReadsOne limits s t old new close
reads_stream seen limits s t old new taker feed.End close last f e =
    reads_ended limits s t old new f.fed f.reading f.items f.stream End close (f.answered ++ all_of last) (e s f.answered f.takes (none_taken last f.answered _ f.all f.begun)) f.all (at_end f.reading f.closes.2) f.closes.0 (λ asked. (f.closes, asked))
reads_stream seen limits s t old new taker (feed.Bad bad) close last f e =
    reads_ended limits s t old new f.fed f.reading f.items f.stream (Bad bad) close (f.answered ++ all_of last) (e s f.answered f.takes (none_taken last f.answered _ f.all f.begun)) f.all (at_bad new.left f.reading bad f.closes.1) f.closes.0 (λ asked. (f.closes, asked))
reads_stream seen limits s t old new taker feed.ReadFault close last f e =
    reads_ended limits s t old new f.fed f.reading f.items f.stream ReadFault close (f.answered ++ all_of last) (e s f.answered f.takes (none_taken last f.answered _ f.all f.begun)) f.all (rw f.closes.2 tt) f.closes.0 (λ asked. (f.closes, asked))
reads_stream seen limits s t old new taker feed.LimitReached close last f e =
    let taken : HasTaken s t f.answered = subst (λ x. HasTaken s x f.answered) (sym e.1) f.takes in
    subst (λ c. ReadsOne limits s t old new c) (sym e.0)
    (reads_so limits s t old new f.fed f.reading f.items f.stream LimitReached f.answered (all_of last) (offers_besides s.extent s.says s.inquiries t.inquiries s.pass t.pass t.refused f.answered 0 4 0 1 (omega arith) (omega arith) taken.offers) taken.same f.all
    (λ none. rw f.closes.0.unfinished_item tt) (λ e. cc) (inl (f.closes, record { last = last; all = f.all })) (λ other. taken.none_failed))
reads_stream seen limits s t old new taker feed.OutOfMemory close last f e =
    let taken : HasTaken s t f.answered = subst (λ x. HasTaken s x f.answered) (sym e.1) f.takes in
    let offers = offers_besides s.extent s.says s.inquiries t.inquiries s.pass t.pass t.refused f.answered 0 4 0 1 (omega arith) (omega arith) taken.offers in
    subst (λ c. ReadsOne limits s t old new c) (sym e.0) (out last f.begun f.all taken offers)
  where
    out : (last : Option Message) → (last ≡ None → messages limits.message_signatures f.items ≡ []) → f.answered ++ all_of last ≡ messages limits.message_signatures f.items → HasTaken s t f.answered
        → Offers s.extent s.says s.inquiries t.inquiries s.pass t.pass t.refused f.answered 4 1 → ReadsOne limits s t old new OutOfMemory
    out (Some message) begun all taken offers =
        reads_out limits s t old new f.fed f.closes.0 f.answered offers taken.same (first_of limits f.fed f.reading f.items f.stream f.answered (message ∷ []) all (λ e. cc)) f.closes.1 taken.none_failed
    out None begun all taken offers =
        let nothing : f.answered ≡ [] = none_taken None f.answered _ all begun refl in
        reads_out limits s t old new [] (f.fed ++ f.closes.0) f.answered offers taken.same (rw nothing (first_none limits)) f.closes.1 taken.none_failed
reads_stream seen limits s t old new taker (feed.Stopped stop) close last f e =
    subst (λ c. ReadsOne limits s t old new c) (sym e.0)
    (reads_stopped limits s t old new f.fed f.reading f.items f.stream stop f.answered (all_of last) (subst (λ x. HasStopped s x stop f.answered) (sym e.1) f.takes) f.all
    (λ none some. absurd (some_open last f.answered none some f.begun f.all)) f.closes)

-- the extent, the limit and what was refused at first, written otherwise
pub reads_at : (limits : Limits) (s t : Standing) (old new : SourceShown) (close : Close) → s.refused ≡ [] → ReadsOne limits s t old new close
    → ReadsOne limits (record s { refused = [] }) (record t { extent = s.extent; limit = s.limit }) old new close
reads_at limits s t old new close none r =
    let same : ReadsOne limits s (record t { limit = s.limit }) old new close = subst (λ l. ReadsOne limits s (record t { limit = l }) old new close) r.same.limit r in
    subst (λ l. ReadsOne limits (record s { refused = l }) (record t { extent = s.extent; limit = s.limit }) old new close) none
    (subst (λ e. ReadsOne limits s (record t { extent = e; limit = s.limit }) old new close) r.same.extent same)
