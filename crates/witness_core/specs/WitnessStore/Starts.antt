-- Cores of the payloads of a shelf (own: what a witness starts from).
use Rattle.std.specs.Prelude.{◌≡◌, ℕ, List, length, map, replicate}
use Rattle.journal_views.specs.EventPayload.Payloads.{text_in}
use Rattle.journal.specs.declared.journal.mode.Mode.TheVariants.{Local}
use Rattle.journal.specs.declared.journal.resume_fault.ResumeFault.{ResumeFault}
use Rattle.journal.specs.declared.journal.resume_fault.ResumeFault.TheVariants.{OutOfMemory}
use Rattle.keri_outside.specs.declared.limits.Limits.{Limits}
use Rattle.validator_core.specs.ValidatorCore.Base.{AreRefused, IsResumed}
use Rattle.validator_core.specs.ValidatorCore.View.{CoreView, IsSoundCore, accepted_by}
use Rattle.witness_core.specs.declared.witness_store.room.Room.{Room}

-- the bodies at the front of payloads; none for one that isn't a body with good groups of signatures alone behind it
abbrev pub texts_in : List (List ℕ) → List (List ℕ)
texts_in payloads = map text_in payloads

-- a core that waits for neither receipts nor seals, was told nothing, and has these payloads' bodies as its base
abbrev pub IsStarted : Limits → List (List ℕ) → CoreView → Type 0
IsStarted limits payloads core = IsResumed Local limits (texts_in payloads) core

-- why there is none: a payload is the first whose body is no event that fits behind those before it, or none; or there was no
-- memory
abbrev pub AreNoStart : List (List ℕ) → ResumeFault → Type 0
AreNoStart payloads fault = AreRefused (texts_in payloads) fault

-- READ AGAIN: The list reads as the accepted events, in order. So what a witness that starts from it counts as accepted is just that.
abbrev pub ReadsAgain : CoreView → List (List ℕ) → Type 0
ReadsAgain core list = texts_in list ≡ map (λ b. b.bytes) (accepted_by core)

-- STARTS AGAIN: a start from the list fails for want of memory alone
abbrev pub StartsAgain : List (List ℕ) → Type 0
StartsAgain list = (fault : ResumeFault) → AreNoStart list fault → fault ≡ OutOfMemory

-- what is true of every core, and the room of one in which nothing waits and no signatures came
pub record IsFirstRoom (core : CoreView) (room : Room) : Type 0 where
  pub sound : IsSoundCore core
  pub signatures : room.signatures.items ≡ replicate (length core.held) 0
  pub reserved : room.reserved ≡ 0
