-- What asking does to what a pass knows.
use Rattle.std.specs.Prelude.{◌≡◌, ℕ, ◌+◌, ◌-◌, ◌*◌, ◌≤◌, Bool, List, [], ◌++◌, length, map, flat_map, Option, Some, IfSome, All, Contains}
use mathlib.Core.List.{IsPrefix, Sublist}
use Rattle.lists.specs.KeriSpecs.Causes.{Rose}
use Rattle.lists.specs.KeriSpecs.Shown.{after}
use Rattle.keri_outside.specs.declared.inquiry.Inquiry.{Inquiry}
use Rattle.cesr_codes.specs.declared.key.Key.{Key}
use Rattle.cesr_codes.specs.declared.sig.Sig.{Sig}
use Rattle.journal.specs.declared.journal.mode.Mode.{Mode}
use Rattle.journal.specs.Journal.History.{Told, took, heard, heard_in}
use Rattle.journal.specs.Journal.Questions.{questions}
use Rattle.validator_core.specs.ValidatorCore.Verdicts.{inquiries_in, inquiry_on}
use Rattle.turn_lock.specs.Histories.{longer_share}
use Rattle.reader_hub.specs.ReaderHub.Hubs.{HubPass}
use Rattle.reader_hub.specs.declared.reader_hub.core_head.CoreHead.{CoreHead}
use Rattle.reader_hub.specs.declared.reader_hub.hub_fault.HubFault.{HubFault}
use Rattle.reader_hub.specs.declared.reader_hub.hub_fault.HubFault.TheVariants.{Spent, OutOfMemory as NoMemory}
use Rattle.reader_hub.specs.declared.reader_hub.extent.Extent.{Extent}
use Rattle.reader_hub.specs.declared.reader_hub.extent.Extent.TheVariants.{First, Free, All as Every}
use Rattle.run_status.specs.declared.run_status.close.Close.{Close}
use Rattle.run_status.specs.declared.run_status.close.Close.TheVariants.{End, Bad, ReadFault, VerifierFault, SignerFault, DiskFault, WriteFault, Malformed, LimitReached, OutOfMemory}
use Rattle.reader_hub.specs.SharedReader.Steps.{StepsAlone}

-- what a verifier says of a key, a body and a signature, where that is shown
abbrev pub Says : Type 0
Says = Key → List ℕ → Sig → Option Bool

-- how a reader ends by a fault of the hub
abbrev pub ended_by : HubFault → Close
ended_by (Spent turns) = LimitReached
ended_by NoMemory = OutOfMemory

-- so many verdicts were told
abbrev pub verdict_count : List Told → ℕ
verdict_count told = length (flat_map heard_in told)

-- the entry is the verdict of the reader of this number, and what is said of its key, body and signature
abbrev pub IsVerdict : ℕ → Says → Told → Type 0
IsVerdict n says (took reader b claims) = ⊥
IsVerdict n says (heard reader b key sig verdict) = (reader ≡ n) × IfSome (says key b.bytes sig) (λ said. verdict ≡ said)

-- Behind the inquiries of before came others, where they are told: among them, in order, those for these verdicts, and at most so
-- many in all.
pub record AsksFor (before now : Option (List Inquiry)) (verdicts : List Told) (most : ℕ) : Type 0 where
  pub all : List Inquiry
  pub now_is : now ≡ after before all
  pub in_order : Sublist (inquiries_in verdicts) all
  pub few : length all ≤ most

-- the inquiry is for a verdict that is told, or on a question that is open
abbrev pub IsToldOrOpen : Mode → List Told → Inquiry → Type 0
IsToldOrOpen mode told i = Contains (inquiries_in told ++ map inquiry_on (questions mode [] told)) i

-- Behind the inquiries of before came others, where they are told, and each of these is for a verdict that is told, or on a question
-- that is open.
pub record AsksOnly (before now : Option (List Inquiry)) (mode : Mode) (told : List Told) : Type 0 where
  pub all : List Inquiry
  pub now_is : now ≡ after before all
  pub of_told : All (IsToldOrOpen mode told) all

-- by what the pass has seen
abbrev pub AsksOnlySeen : Option (List Inquiry) → Option (List Inquiry) → HubPass → Type 0
AsksOnlySeen before now q = (head : CoreHead) → q.head ≡ Some head → AsksOnly before now head.mode q.seen

-- the number, the splits and the head of a pass stay
pub record Stays (p q : HubPass) : Type 0 where
  pub number : q.number ≡ p.number
  pub splits : q.splits ≡ p.splits
  pub head : q.head ≡ p.head

-- nothing came to the pass's share, and at most so many turns were taken
pub record TellsNothing (p q : HubPass) (besides : ℕ) : Type 0 where
  pub stays : Stays p q
  pub own : q.own ≡ p.own
  pub begins : IsPrefix p.seen q.seen
  pub seen : verdict_count p.seen ≤ verdict_count q.seen
  pub turns : q.turns ≤ p.turns + besides

-- Verdicts came to the pass's share, and nothing else, and the verifier was asked for them, and only what was told or open. For each
-- verdict more in what it has seen at most two turns were taken and one question was asked; so many turns besides, and so many
-- questions. Asked to the extent of the first question, one reader alone goes on in step.
pub record Asks (extent : Extent) (says : Says) (before now : Option (List Inquiry)) (p q : HubPass) (besides unheard : ℕ) : Type 0 where
  pub stays : Stays p q
  pub verdicts : List Told
  pub own : q.own ≡ longer_share p.number verdicts p.own
  pub each : All (IsVerdict p.number says) verdicts
  pub begins : IsPrefix p.seen q.seen
  pub only : AsksOnlySeen before now q
  pub steps : extent ≡ First → (share : List Told) → StepsAlone p share → StepsAlone q (share ++ verdicts)
  pub seen : verdict_count p.seen ≤ verdict_count q.seen
  pub turns : q.turns + 2 * verdict_count p.seen ≤ p.turns + 2 * verdict_count q.seen + besides
  pub inquired : AsksFor before now verdicts (verdict_count q.seen - verdict_count p.seen + unheard)

-- of what the pass has seen no question is open
pub record HasNoneOpen (q : HubPass) : Type 0 where
  pub head : CoreHead
  pub head_is : q.head ≡ Some head
  pub none : questions head.mode [] q.seen ≡ []

-- who asked the first question as long as there was one, or all, leaves no question open
abbrev pub LeavesNone : Extent → HubPass → Type 0
LeavesNone First q = HasNoneOpen q
LeavesNone Free q = Unit {0}
LeavesNone Every q = HasNoneOpen q

-- to which extent is asked behind the last message: all is
abbrev pub at_last : Extent → Extent
at_last First = First
at_last Free = Every
at_last Every = Every

-- why no more is asked: the verifier failed, all turns were taken, or there was no memory
abbrev pub StopsAsking : ℕ → HubPass → ℕ → ℕ → Close → Type 0
StopsAsking limit q faults_old faults_new VerifierFault = Rose faults_old faults_new
StopsAsking limit q faults_old faults_new LimitReached = (q.past ≡ limit) × (faults_new ≡ faults_old)
StopsAsking limit q faults_old faults_new OutOfMemory = faults_new ≡ faults_old
StopsAsking limit q faults_old faults_new End = ⊥
StopsAsking limit q faults_old faults_new (Bad bad) = ⊥
StopsAsking limit q faults_old faults_new ReadFault = ⊥
StopsAsking limit q faults_old faults_new SignerFault = ⊥
StopsAsking limit q faults_old faults_new DiskFault = ⊥
StopsAsking limit q faults_old faults_new WriteFault = ⊥
StopsAsking limit q faults_old faults_new (Malformed place) = ⊥
