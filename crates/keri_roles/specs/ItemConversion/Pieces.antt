-- What the calls between a source and a reader do.
use Rattle.std.specs.Prelude.{◌≡◌, ◌≢◌, ℕ, ◌≤◌, List, [], ◌∷◌, length}
use Rattle.std.specs.declared.option.Option.{Option}
use Rattle.std.specs.declared.option.Option.TheVariants.{None}
use Rattle.lists.specs.KeriSpecs.Causes.{Rose}
use Rattle.lists.specs.KeriSpecs.Shown.{IsAtEnd}
use Rattle.cesr_stream.specs.declared.bad.BadReason.TheVariants.{Truncated}
use Rattle.cesr_stream.specs.Reading.{Reading, bad_at, fed_with, refused_by}
use Rattle.run_status.specs.declared.run_status.close.Close.{Close}
use Rattle.run_status.specs.declared.run_status.close.Close.TheVariants.{End, Bad, ReadFault, VerifierFault, SignerFault}
use Rattle.run_status.specs.declared.run_status.close.Close.TheVariants.{DiskFault, WriteFault, Malformed, LimitReached, OutOfMemory}
use Rattle.keri_outside.specs.Shown.{SourceShown}
use Rattle.keri_roles.specs.ItemConversion.Closes.{Gave}

-- a source and the reader behind it
pub record Intake : Type 0 where
  pub source : SourceShown
  pub reader : Reading

abbrev pub intake : {S : Type 0} → (S → Option (List ℕ)) → (S → ℕ) → S → Reading → Intake
intake left faults source reader = record { source = record { left = left source; faults = faults source }; reader = reader }

-- a piece of so many bytes was fed, or none at the end of input
pub record FeedsPiece (room : ℕ) (old new : Intake) (count : ℕ) : Type 0 where
  pub piece : List ℕ
  pub counted : length piece ≡ count
  pub few : count ≤ room
  pub same_faults : new.source.faults ≡ old.source.faults
  pub gave : Gave old.source new.source piece
  pub at_end : count ≡ 0 → IsAtEnd new.source.left × (new.reader ≡ old.reader)
  pub fed : count ≢ 0 → new.reader ≡ fed_with old.reader piece None

-- nothing was fed, since the source failed, or since there was no memory for what it gave
abbrev pub FeedsNone : Intake → Intake → Close → Type 0
FeedsNone old new ReadFault = (new.source.left ≡ old.source.left) × Rose old.source.faults new.source.faults × (new.reader ≡ old.reader)
FeedsNone old new OutOfMemory = ((piece : List ℕ) × Gave old.source new.source piece) × (new.source.faults ≡ old.source.faults) × (new.reader ≡ old.reader)
FeedsNone old new End = ⊥
FeedsNone old new (Bad bad) = ⊥
FeedsNone old new VerifierFault = ⊥
FeedsNone old new SignerFault = ⊥
FeedsNone old new DiskFault = ⊥
FeedsNone old new WriteFault = ⊥
FeedsNone old new (Malformed place) = ⊥
FeedsNone old new LimitReached = ⊥

-- the input ended: nothing is left, or an item is cut short
abbrev pub EndsSo : Reading → Reading → Close → Type 0
EndsSo old new End = (old.rest ≡ []) × (new ≡ old)
EndsSo old new (Bad bad) = (old.rest ≢ []) × (bad ≡ bad_at old.place Truncated) × (new ≡ refused_by old bad)
EndsSo old new ReadFault = ⊥
EndsSo old new VerifierFault = ⊥
EndsSo old new SignerFault = ⊥
EndsSo old new DiskFault = ⊥
EndsSo old new WriteFault = ⊥
EndsSo old new (Malformed place) = ⊥
EndsSo old new LimitReached = ⊥
EndsSo old new OutOfMemory = ⊥

-- one more byte was asked for
abbrev pub PassesEnd : Intake → Intake → Close → Type 0
PassesEnd old new ReadFault = (new.source.left ≡ old.source.left) × Rose old.source.faults new.source.faults
PassesEnd old new LimitReached = ((more : ℕ) × Gave old.source new.source (more ∷ [])) × (new.source.faults ≡ old.source.faults)
PassesEnd old new close =
    EndsSo old.reader new.reader close × (new.source.left ≡ old.source.left) × IsAtEnd new.source.left × (new.source.faults ≡ old.source.faults)
