-- A full validator that one reader told alone.
use Rattle.std.specs.Prelude.{◌≡◌, ℕ, true, false, List, [], ◌∷◌, All, Some}
use Rattle.cesr_codes.specs.Indexed.{IsIndexed}
use Rattle.cesr_codes.specs.Spelling.{IsKey, IsSig}
use Rattle.journal.specs.Journal.Feeds.{Fed}
use Rattle.journal.specs.Journal.History.{Told, took, heard}
use Rattle.journal.specs.Journal.Questions.{IsInStep, questions}
use Rattle.journal.specs.declared.journal.claim.Claim.{Claim}
use Rattle.journal.specs.declared.journal.claim.Claim.TheVariants.{Controller, Witness, Couple}
use Rattle.journal.specs.declared.journal.mode.Mode.TheVariants.{Full}
use Rattle.journal.specs.declared.journal.refusal.Refusal.{Refusal}
use Rattle.keri_outside.specs.declared.limits.Limits.{Limits}

-- the raw bytes of a claim's signature, and of its key where it has one, are bytes
abbrev pub HasRawBytes : Claim → Type 0
HasRawBytes (Controller s) = IsIndexed s
HasRawBytes (Witness s) = IsIndexed s
HasRawBytes (Couple key sig) = IsKey key × IsSig sig

-- and so those of each claim that was taken
abbrev pub TakesBytes : Told → Type 0
TakesBytes (took reader b claims) = All HasRawBytes claims
TakesBytes (heard reader b key sig verdict) = Unit {0}

-- A full validator that one reader alone told: it read this text through, at the standard limits of bodies and of a
-- message's signatures, and its verifier says yes to all; it took each message once no question was open; and no question
-- is open at the end. The raw bytes of what it took are bytes, as those of all values that a program holds.
pub record ReadsAlone (limits : Limits) (text : List ℕ) (refused : List Refusal) (whole : List Told) : Type 0 where
  pub body : limits.body ≡ 65535
  pub signatures : limits.message_signatures ≡ 1024
  pub fed : Fed limits (record { bytes = Some text; says = λ key bytes sig. Some true; refused = refused; stopped = false } ∷ []) whole
  pub raw : All TakesBytes whole
  pub in_step : IsInStep Full whole
  pub none_open : questions Full [] whole ≡ []
