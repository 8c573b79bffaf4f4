-- What a fault leaves, and what causes it (own).
use Rattle.std.specs.Prelude.{◌≡◌, ℕ, Bool, true, false}
use Rattle.std.specs.declared.result.Result.{Result}
use Rattle.std.specs.declared.result.Result.TheVariants.{Ok, Err}
use Rattle.lists.specs.KeriSpecs.Causes.{Rose}
use Rattle.witness_core.specs.declared.witness_store.witness_fault.WitnessFault.{WitnessFault}
use Rattle.witness_core.specs.declared.witness_store.witness_fault.WitnessFault.TheVariants.{DiskFault, SignerFault, VerifierFault, LimitReached, Broken, OutOfMemory}

-- a witness that is broken answers that it is, and any other is broken then by just a fault of the disk or want of memory
abbrev pub Goes : {T : Type 0} → Bool → Bool → Result T WitnessFault → Type 0
Goes true new (Ok _) = ⊥
Goes true new (Err fault) = (fault ≡ Broken) × (new ≡ true)
Goes false new (Ok _) = new ≡ false
Goes false new (Err DiskFault) = new ≡ true
Goes false new (Err OutOfMemory) = new ≡ true
Goes false new (Err SignerFault) = new ≡ false
Goes false new (Err VerifierFault) = new ≡ false
Goes false new (Err LimitReached) = new ≡ false
Goes false new (Err Broken) = ⊥

-- a witness that isn't broken answers that it is full just where a message is turned away, but for want of memory
abbrev pub FullBy : Type 0 → WitnessFault → Type 0
FullBy turned LimitReached = turned
FullBy turned OutOfMemory = Unit {0}
FullBy turned DiskFault = turned → ⊥
FullBy turned SignerFault = turned → ⊥
FullBy turned VerifierFault = turned → ⊥
FullBy turned Broken = turned → ⊥

-- The counts of faults of the disk, of the verifier and of the signer, each before and after: that of the one whose fault it is
-- rose, and else they are as they were.
abbrev pub CausedBy : ℕ → ℕ → ℕ → ℕ → ℕ → ℕ → WitnessFault → Type 0
CausedBy disk disk_then verifier verifier_then signer signer_then DiskFault = Rose disk disk_then × (verifier_then ≡ verifier) × (signer_then ≡ signer)
CausedBy disk disk_then verifier verifier_then signer signer_then VerifierFault = (disk_then ≡ disk) × Rose verifier verifier_then × (signer_then ≡ signer)
CausedBy disk disk_then verifier verifier_then signer signer_then SignerFault = (disk_then ≡ disk) × (verifier_then ≡ verifier) × Rose signer signer_then
CausedBy disk disk_then verifier verifier_then signer signer_then LimitReached = (disk_then ≡ disk) × (verifier_then ≡ verifier) × (signer_then ≡ signer)
CausedBy disk disk_then verifier verifier_then signer signer_then Broken = (disk_then ≡ disk) × (verifier_then ≡ verifier) × (signer_then ≡ signer)
CausedBy disk disk_then verifier verifier_then signer signer_then OutOfMemory = (disk_then ≡ disk) × (verifier_then ≡ verifier) × (signer_then ≡ signer)

-- while a message is taken the disk or the verifier fails, and its count rises, or there is no room, or no memory
abbrev pub TakeFault : ℕ → ℕ → ℕ → ℕ → WitnessFault → Type 0
TakeFault disk disk_then verifier verifier_then DiskFault = Rose disk disk_then × (verifier_then ≡ verifier)
TakeFault disk disk_then verifier verifier_then VerifierFault = (disk_then ≡ disk) × Rose verifier verifier_then
TakeFault disk disk_then verifier verifier_then LimitReached = (disk_then ≡ disk) × (verifier_then ≡ verifier)
TakeFault disk disk_then verifier verifier_then OutOfMemory = (disk_then ≡ disk) × (verifier_then ≡ verifier)
TakeFault disk disk_then verifier verifier_then SignerFault = ⊥
TakeFault disk disk_then verifier verifier_then Broken = ⊥

-- while receipts are signed the signer fails, and its count rises, or there is no memory
abbrev pub SignFault : ℕ → ℕ → WitnessFault → Type 0
SignFault signer signer_then SignerFault = Rose signer signer_then
SignFault signer signer_then OutOfMemory = signer_then ≡ signer
SignFault signer signer_then DiskFault = ⊥
SignFault signer signer_then VerifierFault = ⊥
SignFault signer signer_then LimitReached = ⊥
SignFault signer signer_then Broken = ⊥
