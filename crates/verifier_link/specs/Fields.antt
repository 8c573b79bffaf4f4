-- The fields of a question, and what is read of them.
use Rattle.std.specs.Prelude.{◌≡◌, ℕ, ◌+◌, ◌<◌, ◌≤◌, List, [], ◌∷◌, ◌++◌, length}
use Rattle.lists.specs.KeriSpecs.Causes.{Rose}
use Rattle.lists.specs.KeriSpecs.Shown.{before, IsAtEnd}
use Rattle.cesr_codes.specs.declared.key.Key.{Key}
use Rattle.cesr_codes.specs.declared.sig.Sig.{Sig}
use Rattle.cesr_codes.specs.Spelling.{key_text, sig_text, IsKey, IsSig}
use Rattle.verifier_link.specs.declared.letter.Letter.{Letter}
use Rattle.verifier_link.specs.declared.letter.Letter.TheVariants.{Verdict, Signing}
use Rattle.verifier_link.specs.declared.stop.Stop.{Stop}
use Rattle.verifier_link.specs.declared.stop.Stop.TheVariants.{Ended, Malformed, ReadFault, LimitReached}
use Rattle.verifier_link.specs.declared.wanted.Wanted.{Wanted}
use Rattle.verifier_link.specs.Questions.{IsWanted, wanted_text, length_text}
use Rattle.verifier_link.specs.Sides.{Gave}
use Rattle.keri_outside.specs.Shown.{SourceShown}

-- `V` is a question for a verdict, `S` one for a signature
abbrev pub letter_code : Letter → ℕ
letter_code Verdict = 86
letter_code Signing = 83

-- the fields in their order; a body's has its length
pub data Field : Type 0 where
  the_letter : Field
  the_key : Field
  the_sig : Field
  the_length : Field
  the_body : ℕ → Field

abbrev pub field_size : Field → ℕ
field_size the_letter = 1
field_size the_key = 44
field_size the_sig = 88
field_size the_length = 8
field_size (the_body n) = n

-- a text is one of the field's
abbrev pub IsFieldText : Field → List ℕ → Type 0
IsFieldText the_letter text = (letter : Letter) × (text ≡ letter_code letter ∷ [])
IsFieldText the_key text = (key : Key) × IsKey key × (text ≡ key_text key)
IsFieldText the_sig text = (sig : Sig) × IsSig sig × (text ≡ sig_text sig)
IsFieldText the_length text = (n : ℕ) × (n ≤ 65535) × (text ≡ length_text n)
IsFieldText (the_body n) text = Unit {0}

-- the field is due behind these bytes, which are the fields before it
abbrev pub IsDue : Field → List ℕ → Type 0
IsDue the_letter front = front ≡ []
IsDue the_key front = (letter : Letter) × (front ≡ letter_code letter ∷ [])
IsDue the_sig front = (key : Key) × IsKey key × (front ≡ 86 ∷ key_text key)
IsDue the_length front = (wanted : Wanted) × IsWanted wanted × (front ≡ wanted_text wanted)
IsDue (the_body n) front = (wanted : Wanted) × IsWanted wanted × (n ≤ 65535) × (front ≡ wanted_text wanted ++ length_text n)

-- the bytes are fields of a question, and fewer than all of the next
pub record IsBegun (bytes : List ℕ) : Type 0 where
  pub field : Field
  pub front : List ℕ
  pub text : List ℕ
  pub due : IsDue field front
  pub is : bytes ≡ front ++ text
  pub fewer : length text < field_size field

-- the bytes are fields of a question, and a text in the next one's place that isn't one
pub record IsRefused (bytes : List ℕ) : Type 0 where
  pub field : Field
  pub front : List ℕ
  pub text : List ℕ
  pub due : IsDue field front
  pub is : bytes ≡ front ++ text
  pub all : length text ≡ field_size field
  pub other : IsFieldText field text → ⊥

-- the source gave these bytes, and so many fewer may be read then
pub record IsTaken (room_old room_new : ℕ) (old new : SourceShown) (bytes : List ℕ) : Type 0 where
  pub gave : Gave old new bytes
  pub counted : room_new + length bytes ≡ room_old

-- bytes were taken that make the front this text
pub record Completes (front text : List ℕ) (Taken : List ℕ → Type 0) : Type 0 where
  pub bytes : List ℕ
  pub is : text ≡ front ++ bytes
  pub taken : Taken bytes

-- the input ended, or the source failed, before so many bytes had come
abbrev pub IsShort : ℕ → SourceShown → SourceShown → Stop → Type 0
IsShort size old new Ended = (bytes : List ℕ) × (length bytes < size) × Gave old new bytes × IsAtEnd new.left
IsShort size old new ReadFault = (bytes : List ℕ) × (length bytes < size) × (old.left ≡ before bytes new.left) × Rose old.faults new.faults
IsShort size old new Malformed = ⊥
IsShort size old new LimitReached = ⊥

-- one more byte was asked for
abbrev pub SeesMore : SourceShown → SourceShown → Stop → Type 0
SeesMore old new Ended = Gave old new [] × IsAtEnd new.left
SeesMore old new ReadFault = (old.left ≡ before [] new.left) × Rose old.faults new.faults
SeesMore old new LimitReached = (more : ℕ) × Gave old new (more ∷ [])
SeesMore old new Malformed = ⊥

-- the same where only so many bytes may be read; or so many were read, and the source gave one more
abbrev pub IsCut : ℕ → ℕ → SourceShown → SourceShown → Stop → Type 0
IsCut size room old new Ended = (bytes : List ℕ) × (length bytes < size) × (length bytes ≤ room) × Gave old new bytes × IsAtEnd new.left
IsCut size room old new ReadFault = (bytes : List ℕ) × (length bytes < size) × (length bytes ≤ room) × (old.left ≡ before bytes new.left) × Rose old.faults new.faults
IsCut size room old new Malformed = ⊥
IsCut size room old new LimitReached = (bytes : List ℕ) × (length bytes < size) × (length bytes ≡ room) × (more : ℕ) × Gave old new (bytes ++ more ∷ [])

-- the field isn't whole, or what stands there isn't one
abbrev pub FieldStops : Field → ℕ → SourceShown → SourceShown → Stop → Type 0
FieldStops field room old new Ended = IsCut (field_size field) room old new Ended
FieldStops field room old new ReadFault = IsCut (field_size field) room old new ReadFault
FieldStops field room old new LimitReached = IsCut (field_size field) room old new LimitReached
FieldStops field room old new Malformed = (text : List ℕ) × (length text ≡ field_size field) × (length text ≤ room) × (IsFieldText field text → ⊥) × Gave old new text
