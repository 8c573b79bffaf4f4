-- What is seen of a run, and that each fault that it answers has its cause.
use Rattle.std.specs.Prelude.{◌≡◌, ℕ, ◌⊎◌, Bool, true, false, List, [], ◌∷◌, map, IsNone, IsSomeAnd, MatchOption, String, string_bytes}
use Rattle.std.specs.declared.option.Option.{Option}
use Rattle.std.specs.declared.option.Option.TheVariants.{None, Some}
use Rattle.lists.specs.KeriSpecs.Causes.{Rose}
use Rattle.command_words.specs.Inputs.{Inputs, links, named}
use Rattle.command_words.specs.Words.{Asked, asks, blame, check, convert, export, generate, make, rehearse, validate, watch, witness}
use Rattle.cesr_codes.specs.declared.key.Key.{Key}
use Rattle.cesr_codes.specs.declared.sig.Sig.{Sig}
use Rattle.keri_outside.specs.declared.signing.Signing.{Signing}
use Rattle.run_status.specs.RunOutside.Shown.{OutsideShown}
use Rattle.journal.specs.declared.journal.journal.Journal.{Journal}
use Rattle.run_status.specs.declared.run_status.close.Close.{Close}
use Rattle.run_status.specs.declared.run_status.close.Close.TheVariants.{End, Bad, ReadFault, VerifierFault, SignerFault, DiskFault, WriteFault, Malformed, LimitReached, OutOfMemory}
use Rattle.run_status.specs.declared.run_status.besides.Besides.{Besides}
use Rattle.run_status.specs.RunStatus.Readers.{HasClose, Reader, VerifierShown}
use Rattle.keri_outside.specs.Shown.{SinkShown}
use Rattle.run_status.specs.RunStatus.RunEnds.{FaultsHaveCauses, EndsRunBy}

-- what a signer tells: the signatures that it gives, what it was asked, and how often it has failed
pub record SignerShown : Type 0 where
  pub gives : Key → List ℕ → Option Sig
  pub signings : Option (List Signing)
  pub faults : ℕ

-- what a disk shows of its file as it reads, where that is shown: its bytes, and how often it has failed
pub record DiskSeen : Type 0 where
  pub file : Option (List ℕ)
  pub faults : ℕ

-- what a door shows: the bytes of each link that is left, where that is shown, and how often it has failed
pub record DoorShown : Type 0 where
  pub left : Option (List (List ℕ))
  pub faults : ℕ

-- What a run did: its disk is that of a shelf, and the old one that of a shelf whose list was brought over, where it made them. Where it
-- read links, it has the door, where that was made, and the links' sinks, in order. The second journal is that of the second file of
-- `blame`.
pub record Run : Type 0 where
  pub before : OutsideShown
  pub after : OutsideShown
  pub sink_before : SinkShown
  pub sink_after : SinkShown
  pub readers : List Reader
  pub signer : Option SignerShown
  pub disk : Option DiskSeen
  pub old : Option DiskSeen
  pub door : Option DoorShown
  pub sinks : List SinkShown
  pub journal : Journal
  pub second : Option Journal
  pub status : ℕ

-- there was no memory for all that a reader read
abbrev pub is_out : Close → Bool
is_out OutOfMemory = true
is_out End = false
is_out (Bad bad) = false
is_out ReadFault = false
is_out VerifierFault = false
is_out SignerFault = false
is_out DiskFault = false
is_out WriteFault = false
is_out (Malformed place) = false
is_out LimitReached = false

-- no door was made, and no link came
pub record HasNoLinks (run : Run) : Type 0 where
  pub no_door : run.door ≡ None
  pub no_sinks : run.sinks ≡ []

-- A reader closes by a fault of its source or its verifier only where the count of that rose from zero, or where it
-- couldn't be made and the count of the outside rose.
pub record IsCaused (before after : OutsideShown) (reader : Reader) : Type 0 where
  pub source : reader.close ≡ ReadFault → MatchOption reader.source (Rose before.faults after.faults) (λ s. Rose 0 s.faults)
  pub verifier : reader.close ≡ VerifierFault → MatchOption reader.verifier (Rose before.faults after.faults) (λ v. Rose 0 v.faults)

abbrev pub AreCaused : OutsideShown → OutsideShown → List Reader → Type 0
AreCaused before after [] = Unit {0}
AreCaused before after (reader ∷ readers) = IsCaused before after reader × AreCaused before after readers

-- a verifier of one of these readers failed
abbrev pub VerifierRose : List Reader → Type 0
VerifierRose [] = ⊥
VerifierRose (reader ∷ readers) = IsSomeAnd reader.verifier (λ v. Rose 0 v.faults) ⊎ VerifierRose readers

-- `make` and `witness` alone have a signer. It fails where its count rose from zero, or where it couldn't be made and the count of
-- the outside rose.
abbrev pub SignerFails : Option Asked → Run → Type 0
SignerFails None run = ⊥
SignerFails (Some (check file)) run = ⊥
SignerFails (Some (validate helper inputs)) run = ⊥
SignerFails (Some (watch helper inputs)) run = ⊥
SignerFails (Some (export helper prefix files)) run = ⊥
SignerFails (Some (blame helper first second)) run = ⊥
SignerFails (Some (convert domain file)) run = ⊥
SignerFails (Some (generate seed logs events)) run = ⊥
SignerFails (Some rehearse) run = ⊥
SignerFails (Some (witness helper key shelf from inputs)) run = MatchOption run.signer (Rose run.before.faults run.after.faults) (λ s. Rose 0 s.faults)
SignerFails (Some (make helper plan log)) run = MatchOption run.signer (Rose run.before.faults run.after.faults) (λ s. Rose 0 s.faults)

-- The door failed: its count rose from zero, or it couldn't be made and the count of the outside rose.
abbrev pub DoorRose : Run → Type 0
DoorRose run = MatchOption run.door (Rose run.before.faults run.after.faults) (λ d. Rose 0 d.faults)

-- a command that reads links has a door
abbrev pub FailsAt : {N : Type 0} → Inputs N → Run → Type 0
FailsAt (named names) run = ⊥
FailsAt (links address count) run = DoorRose run

-- `validate`, `watch` and `witness` alone read links
abbrev pub DoorFails : Option Asked → Run → Type 0
DoorFails None run = ⊥
DoorFails (Some (check file)) run = ⊥
DoorFails (Some (validate helper inputs)) run = FailsAt inputs run
DoorFails (Some (watch helper inputs)) run = FailsAt inputs run
DoorFails (Some (convert domain file)) run = ⊥
DoorFails (Some (export helper prefix files)) run = ⊥
DoorFails (Some (blame helper first second)) run = ⊥
DoorFails (Some (generate seed logs events)) run = ⊥
DoorFails (Some rehearse) run = ⊥
DoorFails (Some (make helper plan log)) run = ⊥
DoorFails (Some (witness helper key shelf from inputs)) run = FailsAt inputs run

-- the count of the disk rose from zero, where there is one
abbrev pub DiskRose : Option DiskSeen → Type 0
DiskRose disk = IsSomeAnd disk (λ d. Rose 0 d.faults)

-- `witness` alone has disks, and a shelf. One fails where its count rose from zero, or where it couldn't be made and the count of the
-- outside rose.
abbrev pub DiskFails : Option Asked → Run → Type 0
DiskFails None run = ⊥
DiskFails (Some (check file)) run = ⊥
DiskFails (Some (validate helper inputs)) run = ⊥
DiskFails (Some (watch helper inputs)) run = ⊥
DiskFails (Some (export helper prefix files)) run = ⊥
DiskFails (Some (blame helper first second)) run = ⊥
DiskFails (Some (convert domain file)) run = ⊥
DiskFails (Some (generate seed logs events)) run = ⊥
DiskFails (Some rehearse) run = ⊥
DiskFails (Some (make helper plan log)) run = ⊥
DiskFails (Some (witness helper key shelf from inputs)) run = Rose run.before.faults run.after.faults ⊎ DiskRose run.disk ⊎ DiskRose run.old

-- it reads a shelf
abbrev pub ReadsShelf : Option Asked → Type 0
ReadsShelf None = ⊥
ReadsShelf (Some (check file)) = ⊥
ReadsShelf (Some (validate helper inputs)) = ⊥
ReadsShelf (Some (watch helper inputs)) = ⊥
ReadsShelf (Some (export helper prefix files)) = ⊥
ReadsShelf (Some (blame helper first second)) = ⊥
ReadsShelf (Some (convert domain file)) = ⊥
ReadsShelf (Some (generate seed logs events)) = ⊥
ReadsShelf (Some rehearse) = ⊥
ReadsShelf (Some (make helper plan log)) = ⊥
ReadsShelf (Some (witness helper key shelf from inputs)) = Unit {0}

-- one of these sinks failed
abbrev pub SinkRose : List SinkShown → Type 0
SinkRose [] = ⊥
SinkRose (sink ∷ sinks) = Rose 0 sink.faults ⊎ SinkRose sinks

-- a witness that serves links writes to their sinks, and every other command to the sink of the outside
abbrev pub SinkFails : Option Asked → Run → Type 0
SinkFails (Some (witness helper key shelf from (links address count))) run = SinkRose run.sinks
SinkFails _ run = Rose run.sink_before.faults run.sink_after.faults

-- the one verifier that the readers of a witness's links share, which stands in the first of them, where it could be made
abbrev pub shared_verifier : List Reader → Option VerifierShown
shared_verifier [] = None
shared_verifier (reader ∷ readers) = reader.verifier

-- each reader closed by a fault of its source only where the count of that rose from zero
abbrev pub ReadFaultsRose : List Reader → Type 0
ReadFaultsRose [] = Unit {0}
ReadFaultsRose (reader ∷ readers) = (reader.close ≡ ReadFault → IsSomeAnd reader.source (λ s. Rose 0 s.faults)) × ReadFaultsRose readers

-- The readers of a witness's links share one verifier. Each closes by a fault of its own source, or by one of the verifier, whose count
-- rose from zero then, or which couldn't be made, and the count of the outside rose.
pub record AreCausedTogether (run : Run) : Type 0 where
  pub sources : ReadFaultsRose run.readers
  pub verifier : HasClose VerifierFault run.readers → MatchOption (shared_verifier run.readers) (Rose run.before.faults run.after.faults) (λ v. Rose 0 v.faults)

abbrev pub AreCausedBy : Option Asked → Run → Type 0
AreCausedBy (Some (witness helper key shelf from (links address count))) run = AreCausedTogether run
AreCausedBy _ run = AreCaused run.before run.after run.readers

-- each fault that is answered has its cause
pub record HasCauses (asked : Option Asked) (run : Run) : Type 0 where
  pub two : run.status ≡ 2 → IsNone asked
  pub besides : Besides
  pub faults : FaultsHaveCauses run.readers besides run.sink_before run.sink_after run.status
  pub signer : (besides.signer_failed ≡ true) ⊎ HasClose SignerFault run.readers → SignerFails asked run
  pub door : besides.door_failed ≡ true → DoorFails asked run
  pub disk : (besides.disk_failed ≡ true) ⊎ HasClose DiskFault run.readers → DiskFails asked run
  pub verifier : besides.verifier_failed ≡ true → VerifierRose run.readers
  pub sink : HasClose WriteFault run.readers → SinkFails asked run
  pub shelf : besides.shelf_full ≡ true → ReadsShelf asked
  pub readers : AreCausedBy asked run

-- `blame` alone hands back a second journal
abbrev pub HasNoSecond : Option Asked → Option Journal → Type 0
HasNoSecond (Some (blame helper first second)) back = Unit {0}
HasNoSecond _ back = back ≡ None

-- the words of a run ask for this, where they are in the form
abbrev pub asked_in : {Z : Type 0} → List (String Z) → Option Asked
asked_in words = asks (map string_bytes words)

abbrev pub EndsRun : Option (List ℕ) → Besides → Run → Type 0
EndsRun owed besides run = EndsRunBy owed besides run.readers run.sink_before run.sink_after run.status
