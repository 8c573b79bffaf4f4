-- A reader of texts to which the first of some bytes were given, and how it judges all of them.
use Rattle.std.specs.Prelude.{◌≡◌, ℕ, ◌*◌, ◌/◌, ◌%◌, if◌then◌else◌, ◌≤◌, Bool, true, List, length, take, slice_index}
use Rattle.std.specs.declared.option.Option.TheVariants.{None}
use Rattle.std.specs.declared.result.Result.{Result}
use Rattle.std.specs.declared.result.Result.TheVariants.{Ok, Err}
use Rattle.cesr_stream.specs.declared.step.Step.{Step}
use Rattle.cesr_stream.specs.declared.step.Step.TheVariants.{Item as ItemStep, NeedMore, Bad as BadStep}
use Rattle.cesr_stream.specs.Parts.{Part, whole, refused, unfinished}
use Rattle.cesr_stream.specs.Written.{IsWritable}
use Rattle.cesr_binary.specs.declared.either_reader.EitherReader.{EitherReader}
use Rattle.cesr_binary.specs.BinaryDomain.{in_bytes, is_binary}
use Rattle.cesr_binary.specs.Mixed.{in_binary, mixed_front, text_in_either, SpellsEither}

-- so many bytes are characters: all of them, or whole threes where they are binary
pub record AreGiven (bytes : List ℕ) (given : ℕ) (text : List ℕ) : Type 0 where
  pub within : given ≤ length bytes
  pub threes : is_binary (slice_index bytes 0) ≡ true → given % 3 ≡ 0
  pub spelled : text ≡ text_in_either (take given bytes)

-- a reader of texts, which refused nothing, was given the characters of the first bytes
pub record IsGiven (bytes : List ℕ) (reader : EitherReader) : Type 0 where
  pub from : reader.text.place ≡ 0
  pub not_bad : reader.text.bad ≡ None
  pub given : AreGiven bytes reader.given reader.text.rest

-- it goes on as it began
pub record GoesOn (bytes : List ℕ) (old new : EitherReader) : Type 0 where
  pub is_given : IsGiven bytes new
  pub begun : new.text.begun ≡ old.text.begun
  pub further : old.given ≤ new.given

-- no item and no refusal was answered
abbrev pub WhereOpen : {E : Type 0} → Result Step E → Type 0 → Type 0
WhereOpen (Ok (ItemStep item n)) T = Unit {0}
WhereOpen (Ok NeedMore) T = T
WhereOpen (Ok (BadStep bad)) T = Unit {0}
WhereOpen (Err e) T = T

-- how the characters are judged, as a judgement of the bytes
abbrev pub in_either : List ℕ → Part → Part
in_either bytes part = if is_binary (slice_index bytes 0) then in_binary part else part

-- a place in the characters, as one in the bytes
abbrev pub either_place : List ℕ → ℕ → ℕ
either_place bytes place = if is_binary (slice_index bytes 0) then in_bytes place else place

-- how many of the bytes can be turned
abbrev pub turnable : List ℕ → ℕ
turnable bytes = if is_binary (slice_index bytes 0) then 3 * (length bytes / 3) else length bytes

-- the item at the front, which may be written, with its length, or how the front is judged
abbrev pub JudgesFront : {E : Type 0} → ℕ → Bool → List ℕ → Result Step E → Type 0
JudgesFront limit begun bytes (Ok (ItemStep item n)) =
    (mixed_front limit begun bytes ≡ whole n) × SpellsEither (take n bytes) item × (n ≤ length bytes) × IsWritable item
JudgesFront limit begun bytes (Ok NeedMore) = mixed_front limit begun bytes ≡ unfinished
JudgesFront limit begun bytes (Ok (BadStep bad)) = (mixed_front limit begun bytes ≡ refused bad.place bad.reason) × (bad.place ≤ length bytes)
JudgesFront limit begun bytes (Err e) = Unit {0}
