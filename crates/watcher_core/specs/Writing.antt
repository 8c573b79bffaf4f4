-- Evidence that is written to a sink.
use Rattle.std.specs.Prelude.{◌≡◌, ℕ, Bool, List, take, Option, Result, Ok, Err}
use Rattle.lists.specs.KeriSpecs.Causes.{Rose}
use Rattle.lists.specs.KeriSpecs.Shown.{after}
use Rattle.validator_core.specs.ValidatorCore.View.{CoreView}
use Rattle.watcher_core.specs.Evidence.{IsEvidenceText}
use Rattle.watcher_core.specs.declared.evidence_fault.EvidenceFault.{EvidenceFault}
use Rattle.watcher_core.specs.declared.evidence_fault.EvidenceFault.TheVariants.{WriteFault, OutOfMemory}

-- The text is added; where the sink failed a front of it, and for want of memory nothing.
abbrev pub WritesEvidence : CoreView → Option (List ℕ) → Option (List ℕ) → Result (Unit {0}) EvidenceFault → Type 0
WritesEvidence core old new (Ok _) = (text : List ℕ) × (has_conflicts : Bool) × IsEvidenceText core text has_conflicts × (new ≡ after old text)
WritesEvidence core old new (Err WriteFault) = (text : List ℕ) × (has_conflicts : Bool) × IsEvidenceText core text has_conflicts × (n : ℕ) × (new ≡ after old (take n text))
WritesEvidence core old new (Err OutOfMemory) = new ≡ old

-- The sink's fault comes only where its count rose, and else the count stays.
abbrev pub FaultsHaveCause : ℕ → ℕ → Result (Unit {0}) EvidenceFault → Type 0
FaultsHaveCause before now (Ok _) = now ≡ before
FaultsHaveCause before now (Err WriteFault) = Rose before now
FaultsHaveCause before now (Err OutOfMemory) = now ≡ before
