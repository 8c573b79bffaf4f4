-- What readers fed a journal, and why they ended.
use Rattle.std.specs.Prelude.{◌≡◌, ◌≢◌, ℕ, ◌+◌, ◌*◌, ◌≤◌, ◌⊎◌, List, [], ◌∷◌, ◌++◌, length, map, flat_map, Option, Some, None}
use Rattle.lists.specs.KeriSpecs.Causes.{Rose}
use Rattle.cesr_stream.specs.declared.message.Message.{Message}
use Rattle.cesr_stream.specs.Items.{Placed}
use Rattle.cesr_stream.specs.Reading.{Reading}
use Rattle.keri_outside.specs.declared.limits.Limits.{Limits}
use Rattle.journal.specs.declared.journal.reply.Reply.TheVariants.{LimitReached as FullReply}
use Rattle.journal.specs.Journal.Feeds as feeds
use Rattle.journal.specs.Journal.Feeds.{AreFirst, Fed, FeedEach, reader_of}
use Rattle.journal.specs.Journal.History.{Told, taken}
use Rattle.run_status.specs.MessageFeed.Closing.{ClosesBy, Gave}
use Rattle.run_status.specs.MessageFeed.Feeds.{Stream}
use Rattle.run_status.specs.declared.message_feed.feed_close.FeedClose.{FeedClose}
use Rattle.run_status.specs.declared.message_feed.feed_close.FeedClose.TheVariants as feed
use Rattle.run_status.specs.RunStatus.Readers.{Reader, VerifierShown}
use Rattle.keri_outside.specs.Shown.{SourceShown}
use Rattle.run_status.specs.declared.run_status.close.Close.{Close}
use Rattle.run_status.specs.declared.run_status.close.Close.TheVariants.{End, Bad, ReadFault, VerifierFault, SignerFault, DiskFault, WriteFault, Malformed, LimitReached, OutOfMemory}
use Rattle.turn_lock.specs.Histories.{share_of}
use Rattle.reader_hub.specs.ReaderHub.Hubs.{TakesOver}
use Rattle.reader_hub.specs.SharedReader.Asks.{AsksFor, verdict_count}
use Rattle.reader_hub.specs.SharedReader.ReadsOne.{LacksOnlyOpen}
use Rattle.reader_hub.specs.ReaderThreads.Given.{Given, end_of, unread}
use Rattle.reader_hub.specs.declared.reader_threads.last_round.LastRound.{LastRound}
use Rattle.reader_hub.specs.declared.reader_threads.last_round.LastRound.TheVariants.{NoneFailed}

-- So many turns these readers take to tell this, at most: two for each message that one of them took or refused, and for each
-- reader two for each verdict of all, and four besides.
abbrev pub most_turns : List Told → List Reader → ℕ
most_turns told readers = 2 * (length (flat_map taken told) + length (flat_map (λ r. r.refused) readers) + length readers * (verdict_count told + 2))

-- the message of a reader of this number that comes behind those offered finds no room
pub record NextFindsNoRoom (limits : Limits) (told : List Told) (number : ℕ) (bytes : List ℕ) (offered : List Message) : Type 0 where
  pub next : Message
  pub first : AreFirst limits bytes (offered ++ next ∷ [])
  pub turned_away : TakesOver limits told number next FullReply told

module _ (limits : Limits) (told : List Told) (most : ℕ) (number : ℕ) where
  module _ (source source_left : SourceShown) (verifier verifier_left : VerifierShown) where
    -- the source closed the reading so, behind these bytes
    abbrev pub IsClosedSo : List ℕ → Reading → FeedClose ℕ → Type 0
    IsClosedSo bytes reading close = ClosesBy limits.stream_bytes source.left source_left.left source.faults source_left.faults bytes reading close

    -- Why the reader ended: by its source; by its verifier's fault; or because a limit was reached: of the bytes that are read,
    -- where there were more, of what is taken, at the next message, or of the turns, which are at most so many then.
    abbrev pub EndsReader : List ℕ → Reading → List Placed → List Message → Close → Type 0
    EndsReader bytes reading items offered End = IsClosedSo bytes reading feed.End
    EndsReader bytes reading items offered (Bad bad) = IsClosedSo bytes reading (feed.Bad bad)
    EndsReader bytes reading items offered ReadFault = IsClosedSo bytes reading feed.ReadFault
    EndsReader bytes reading items offered LimitReached = (IsClosedSo bytes reading feed.LimitReached × LacksOnlyOpen limits items offered)
        ⊎ (Gave source.left source_left.left bytes × ((limits.turns ≤ most) ⊎ NextFindsNoRoom limits told number bytes offered))
    EndsReader bytes reading items offered VerifierFault = Gave source.left source_left.left bytes × Rose verifier.faults verifier_left.faults
    EndsReader bytes reading items offered SignerFault = ⊥
    EndsReader bytes reading items offered DiskFault = ⊥
    EndsReader bytes reading items offered WriteFault = ⊥
    EndsReader bytes reading items offered (Malformed place) = ⊥
    EndsReader bytes reading items offered OutOfMemory = ⊥

    -- These bytes were read, and the reader ended by its cause.
    pub record EndsStream (bytes : List ℕ) (offered : List Message) (close : Close) : Type 0 where
      pub reading : Reading
      pub items : List Placed
      pub stream : Stream limits bytes reading items
      pub closes : EndsReader bytes reading items offered close

  module _ (rest : LastRound) where
    -- The source gave the bytes, and maybe more, and these are what is left of both. Unless there was no memory, the reader ended
    -- by its cause. The verifier was asked for each of this reader's verdicts, in order, and little more; it never failed, unless
    -- its fault ended the reader, or a verifier failed in the last round.
    pub record ReadsFrom (source : SourceShown) (verifier : VerifierShown) (reader : Reader) (bytes : List ℕ) (offered : List Message) : Type 0 where
      pub source_left : SourceShown
      pub verifier_left : VerifierShown
      pub source_is : reader.source ≡ Some source_left
      pub verifier_is : reader.verifier ≡ Some verifier_left
      pub same_says : verifier_left.says ≡ verifier.says
      pub more : List ℕ
      pub gave : Gave source.left source_left.left (bytes ++ more)
      pub closes : reader.close ≢ OutOfMemory → EndsStream source source_left verifier verifier_left bytes offered reader.close
      pub none_failed : reader.close ≢ VerifierFault → rest ≡ NoneFailed → verifier_left.faults ≡ verifier.faults
      pub inquired : AsksFor verifier.inquiries verifier_left.inquiries (share_of reader_of number told) (verdict_count told + 2)
      pub but_one : rest ≡ NoneFailed → AsksFor verifier.inquiries verifier_left.inquiries (share_of reader_of number told) (verdict_count told + 1)
      pub none_seen : reader.seen ≡ []

    -- There was no source: nothing was read, and the reader ends by that. Its verifier was asked in the last round at most.
    pub record HasNoSource (verifier : VerifierShown) (reader : Reader) : Type 0 where
      pub verifier_left : VerifierShown
      pub source_is : reader.source ≡ None
      pub verifier_is : reader.verifier ≡ Some verifier_left
      pub same_says : verifier_left.says ≡ verifier.says
      pub none_failed : rest ≡ NoneFailed → verifier_left.faults ≡ verifier.faults
      pub inquired : AsksFor verifier.inquiries verifier_left.inquiries (share_of reader_of number told) (verdict_count told + 2)
      pub but_one : rest ≡ NoneFailed → AsksFor verifier.inquiries verifier_left.inquiries (share_of reader_of number told) (verdict_count told + 1)
      pub none_refused : reader.refused ≡ []
      pub none_seen : reader.seen ≡ []
      pub close_is : reader.close ≡ ReadFault

    -- The stream was read with the verifier. Where one of both is lacking nothing was read, and the reader ends by what is lacking.
    abbrev pub ReadsBy : Option SourceShown → Option VerifierShown → Reader → List ℕ → List Message → Type 0
    ReadsBy None None reader bytes offered = (reader ≡ unread None None ReadFault) × (bytes ≡ [])
    ReadsBy None (Some verifier) reader bytes offered = HasNoSource verifier reader × (bytes ≡ [])
    ReadsBy (Some source) None reader bytes offered = (reader ≡ unread (Some source) None VerifierFault) × (bytes ≡ [])
    ReadsBy (Some source) (Some verifier) reader bytes offered = ReadsFrom source verifier reader bytes offered

-- the ends of readers, each of which read these bytes
abbrev pub ends_of : List (List ℕ) → List Reader → List feeds.End
ends_of [] readers = []
ends_of (bytes ∷ others) [] = []
ends_of (bytes ∷ others) (reader ∷ readers) = end_of bytes reader ∷ ends_of others readers

module _ (limits : Limits) (told : List Told) (most : ℕ) (rest : LastRound) where
  -- each of these readers, the first of them having this number, read its bytes from what it was given
  abbrev pub ReadEach : (number : ℕ) (read : List (List ℕ)) (given : List Given) (readers : List Reader)
      → FeedEach limits told number (ends_of read readers) → Type 0
  ReadEach number [] [] [] feeds = Unit {0}
  ReadEach number [] [] (reader ∷ readers) feeds = ⊥
  ReadEach number [] (g ∷ given) readers feeds = ⊥
  ReadEach number (bytes ∷ read) [] readers feeds = ⊥
  ReadEach number (bytes ∷ read) (g ∷ given) [] feeds = ⊥
  ReadEach number (bytes ∷ read) (g ∷ given) (reader ∷ readers) feeds =
      ReadsBy limits told most number rest g.source g.verifier reader bytes (map (λ j. j.message) feeds.0.0.offered)
      × ReadEach (number + 1) read given readers feeds.1

-- Of the readers that were given this, in order, each read a list of bytes and ended by its cause. They and no other fed what is
-- told: each the first messages of its bytes, with the verdicts that its verifier gives.
pub record AllRead (limits : Limits) (told : List Told) (given : List Given) (readers : List Reader) (rest : LastRound) : Type 0 where
  pub read : List (List ℕ)
  pub fed : Fed limits (ends_of read readers) told
  pub each : ReadEach limits told (most_turns told readers) rest 0 read given readers fed.each
