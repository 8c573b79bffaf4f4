-- What offering messages does to what a pass knows.
use Rattle.std.specs.Prelude.{◌≡◌, ℕ, suc, ◌+◌, ◌*◌, ◌≤◌, ◌⊎◌, List, ◌++◌, length, map, filter, flat_map, Option, Some, IfSome, All}
use mathlib.Core.List.{IsPrefix}
use Rattle.cesr_stream.specs.declared.message.Message.{Message}
use Rattle.keri_outside.specs.declared.inquiry.Inquiry.{Inquiry}
use Rattle.journal.specs.declared.journal.refusal.Refusal.{Refusal}
use Rattle.journal.specs.declared.journal.reply.Reply.TheVariants.{LimitReached as FullReply}
use Rattle.journal.specs.Journal.Feeds.{GivesBody, Judged, entry_of, refusal_of, is_taken_by}
use Rattle.journal.specs.Journal.History.{Told, took, heard}
use Rattle.turn_lock.specs.Histories.{longer_share}
use Rattle.turn_lock.specs.Known.{OwnsAlone}
use Rattle.reader_hub.specs.ReaderHub.Hubs.{HubPass, TakesOver}
use Rattle.reader_hub.specs.declared.reader_hub.core_head.CoreHead.{CoreHead}
use Rattle.reader_hub.specs.declared.reader_hub.extent.Extent.{Extent}
use Rattle.reader_hub.specs.declared.reader_hub.extent.Extent.TheVariants.{First}
use Rattle.run_status.specs.declared.run_status.close.Close.{Close}
use Rattle.run_status.specs.declared.run_status.close.Close.TheVariants.{End, Bad, ReadFault, VerifierFault, SignerFault, DiskFault, WriteFault, Malformed, LimitReached, OutOfMemory}
use Rattle.reader_hub.specs.SharedReader.Asks.{AsksFor, AsksOnlySeen, Says, Stays, verdict_count}
use Rattle.reader_hub.specs.SharedReader.Steps.{SawNoneOpen, StepsAlone}

-- a core that was told what the pass has seen would have no room for the message
pub record IsTurnedAway (q : HubPass) (m : Message) : Type 0 where
  pub head : CoreHead
  pub head_is : q.head ≡ Some head
  pub full : TakesOver head.limits q.seen q.number m FullReply q.seen

-- The message was offered in one turn: its entry came to the pass's share, or it is refused, and that is noted. Offered once no
-- question is open, it leaves one reader alone in step.
pub record OffersOne (p q : HubPass) (refused_old refused_new : List Refusal) (m : Message) : Type 0 where
  pub stays : Stays p q
  pub offered : Judged
  pub message_is : offered.message ≡ m
  pub body_is : GivesBody offered.message.body offered.gives
  pub own : q.own ≡ longer_share p.number (entry_of p.number offered) p.own
  pub noted : refused_new ≡ refused_old ++ refusal_of offered
  pub begins : IsPrefix p.seen q.seen
  pub steps : (share : List Told) → StepsAlone p share → (length p.seen ≤ length share → SawNoneOpen p) → StepsAlone q (share ++ entry_of p.number offered)
  pub seen : verdict_count p.seen ≤ verdict_count q.seen
  pub turns : q.turns ≡ suc p.turns

-- why the message wasn't offered: all turns were taken, there was no room for it, or no memory
abbrev pub IsKeptOut : ℕ → HubPass → Message → Close → Type 0
IsKeptOut limit q m LimitReached = (q.past ≡ limit) ⊎ IsTurnedAway q m
IsKeptOut limit q m OutOfMemory = Unit {0}
IsKeptOut limit q m End = ⊥
IsKeptOut limit q m (Bad bad) = ⊥
IsKeptOut limit q m ReadFault = ⊥
IsKeptOut limit q m VerifierFault = ⊥
IsKeptOut limit q m SignerFault = ⊥
IsKeptOut limit q m DiskFault = ⊥
IsKeptOut limit q m WriteFault = ⊥
IsKeptOut limit q m (Malformed place) = ⊥

-- the entry carries the reader's number, and a verdict is what is said of its key, body and signature
abbrev pub IsEntryOf : ℕ → Says → Told → Type 0
IsEntryOf n says (took reader b claims) = reader ≡ n
IsEntryOf n says (heard reader b key sig verdict) = (reader ≡ n) × IfSome (says key b.bytes sig) (λ said. verdict ≡ said)

-- Since the pass knew p, with an empty share, these messages were offered: those that aren't refused are its entries, the
-- others are noted, and its verdicts are what the verifier says, who was asked for them, and only what was told or open. At most two
-- turns were taken for each message and for each verdict in what the pass has seen, and so many besides; for each such verdict one
-- question at most was asked, and so many besides. Where the first question was asked each time, one reader alone is in step.
pub record Offers (extent : Extent) (says : Says) (before now : Option (List Inquiry)) (p q : HubPass) (refused : List Refusal) (messages : List Message) (besides unheard : ℕ) : Type 0 where
  pub stays : Stays p q
  pub share : List Told
  pub own : OwnsAlone q share
  pub offered : List Judged
  pub messages_are : map (λ j. j.message) offered ≡ messages
  pub bodies_are : All (λ j. GivesBody j.message.body j.gives) offered
  pub taken_are : filter (is_taken_by p.number) share ≡ flat_map (entry_of p.number) offered
  pub refused_are : refused ≡ flat_map refusal_of offered
  pub each : All (IsEntryOf p.number says) share
  pub turns : q.turns ≤ p.turns + 2 * (length offered + verdict_count q.seen) + besides
  pub inquired : AsksFor before now share (verdict_count q.seen + unheard)
  pub only : AsksOnlySeen before now q
  pub alone : extent ≡ First → StepsAlone q share
