-- What a fault leaves of what is stored, and what causes one while it is stored or questions are asked (own).
use Rattle.std.specs.Prelude.{◌≡◌, ℕ, Bool, true, false}
use Rattle.lists.specs.KeriSpecs.Causes.{Rose}
use Rattle.witness_core.specs.declared.witness_store.witness_fault.WitnessFault.{WitnessFault}
use Rattle.witness_core.specs.declared.witness_store.witness_fault.WitnessFault.TheVariants.{DiskFault, SignerFault, VerifierFault, LimitReached, Broken, OutOfMemory}

-- the witness is broken after it
abbrev pub breaks : WitnessFault → Bool
breaks DiskFault = true
breaks OutOfMemory = true
breaks SignerFault = false
breaks VerifierFault = false
breaks LimitReached = false
breaks Broken = false

-- of the faults in the midst of a message, all but those by which the witness breaks leave all stored
abbrev pub StoresStill : WitnessFault → Type 0 → Type 0
StoresStill DiskFault stored = Unit {0}
StoresStill OutOfMemory stored = Unit {0}
StoresStill SignerFault stored = stored
StoresStill VerifierFault stored = stored
StoresStill LimitReached stored = stored
StoresStill Broken stored = ⊥

-- while payloads are stored the disk fails, and its count rises, or there is no memory
abbrev pub StoreFault : ℕ → ℕ → WitnessFault → Type 0
StoreFault disk disk_then DiskFault = Rose disk disk_then
StoreFault disk disk_then OutOfMemory = disk_then ≡ disk
StoreFault disk disk_then SignerFault = ⊥
StoreFault disk disk_then VerifierFault = ⊥
StoreFault disk disk_then LimitReached = ⊥
StoreFault disk disk_then Broken = ⊥

-- and while questions are asked too the verifier may
abbrev pub AskFault : ℕ → ℕ → ℕ → ℕ → WitnessFault → Type 0
AskFault disk disk_then verifier verifier_then DiskFault = Rose disk disk_then × (verifier_then ≡ verifier)
AskFault disk disk_then verifier verifier_then VerifierFault = (disk_then ≡ disk) × Rose verifier verifier_then
AskFault disk disk_then verifier verifier_then OutOfMemory = (disk_then ≡ disk) × (verifier_then ≡ verifier)
AskFault disk disk_then verifier verifier_then SignerFault = ⊥
AskFault disk disk_then verifier verifier_then LimitReached = ⊥
AskFault disk disk_then verifier verifier_then Broken = ⊥
