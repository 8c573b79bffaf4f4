-- What was read of a source, and why no more is read.
use Rattle.std.specs.Prelude.{◌≡◌, ℕ, ◌+◌, ◌<◌, ◌⊎◌, Bool, List, [], ◌∷◌, ◌++◌, length, drop}
use Rattle.lists.specs.KeriSpecs.Causes.{Rose}
use Rattle.lists.specs.KeriSpecs.Shown.{before, IsAtEnd}
use Rattle.cesr_stream.specs.declared.bad.Bad.{Bad}
use Rattle.cesr_stream.specs.declared.bad.BadReason.TheVariants.{Truncated}
use Rattle.cesr_stream.specs.Items.{Placed}
use Rattle.cesr_stream.specs.Parts.{Part, refused, unfinished}
use Rattle.cesr_stream.specs.Reading.{bad_at}
use Rattle.cesr_binary.specs.Mixed.{mixed_front}
use Rattle.run_status.specs.declared.run_status.close.Close.{Close}
use Rattle.run_status.specs.declared.run_status.close.Close.TheVariants.{End, Bad as BadClose, ReadFault, VerifierFault, SignerFault}
use Rattle.run_status.specs.declared.run_status.close.Close.TheVariants.{DiskFault, WriteFault, Malformed, LimitReached, OutOfMemory}
use Rattle.keri_outside.specs.Shown.{SourceShown}

-- the source gave these bytes, where it shows what it has left
abbrev pub Gave : SourceShown → SourceShown → List ℕ → Type 0
Gave old new bytes = old.left ≡ before bytes new.left

-- All bytes that were read, the items that stand from their front, whether a body is among them, and where the rest begins.
pub record Taken : Type 0 where
  pub bytes : List ℕ
  pub items : List Placed
  pub begun : Bool
  pub place : ℕ

-- how the rest is judged, where a body may have so many bytes
abbrev pub rest_judged : ℕ → Taken → Part
rest_judged limit taken = mixed_front limit taken.begun (drop taken.place taken.bytes)

-- a rule refuses the rest, at its place in the stream
pub record IsRefusedAt (limit : ℕ) (taken : Taken) (bad : Bad) : Type 0 where
  pub within : ℕ
  pub is_refused : rest_judged limit taken ≡ refused within bad.reason
  pub at : bad.place ≡ taken.place + within

-- the input ended within an item
pub record IsCutShort (limit : ℕ) (source : SourceShown) (taken : Taken) (bad : Bad) : Type 0 where
  pub at_end : IsAtEnd source.left
  pub unfinished_item : rest_judged limit taken ≡ unfinished
  pub some : taken.place < length taken.bytes
  pub is : bad ≡ bad_at taken.place Truncated

-- So many bytes were read as may be, no item is whole in the rest, and the source gave one byte more.
pub record IsFull (limit most : ℕ) (old new : SourceShown) (taken : Taken) : Type 0 where
  pub all : length taken.bytes ≡ most
  pub unfinished_item : rest_judged limit taken ≡ unfinished
  pub more : ℕ
  pub gave : Gave old new (taken.bytes ++ more ∷ [])

-- how many bytes a body may have, and how many a stream
pub record Bounds : Type 0 where
  pub body : ℕ
  pub stream : ℕ

-- Why reading closed: what the source showed before and shows now, and what was read.
abbrev pub ClosesBy : Bounds → SourceShown → SourceShown → Taken → Close → Type 0
ClosesBy bounds old new taken End = Gave old new taken.bytes × IsAtEnd new.left × (taken.place ≡ length taken.bytes) × (new.faults ≡ old.faults)
ClosesBy bounds old new taken (BadClose bad) =
    Gave old new taken.bytes × (IsRefusedAt bounds.body taken bad ⊎ IsCutShort bounds.body new taken bad) × (new.faults ≡ old.faults)
ClosesBy bounds old new taken ReadFault = Gave old new taken.bytes × Rose old.faults new.faults × (rest_judged bounds.body taken ≡ unfinished)
ClosesBy bounds old new taken LimitReached = IsFull bounds.body bounds.stream old new taken × (new.faults ≡ old.faults)
ClosesBy bounds old new taken OutOfMemory = ((more : List ℕ) × Gave old new (taken.bytes ++ more)) × (new.faults ≡ old.faults)
ClosesBy bounds old new taken VerifierFault = ⊥
ClosesBy bounds old new taken SignerFault = ⊥
ClosesBy bounds old new taken DiskFault = ⊥
ClosesBy bounds old new taken WriteFault = ⊥
ClosesBy bounds old new taken (Malformed place) = ⊥
