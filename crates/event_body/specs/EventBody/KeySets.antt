-- What the values of keys and thresholds are read as, and why they aren't.
use Rattle.std.specs.Prelude.{◌≡◌, length}
use Rattle.std.specs.List.{AllByRecursion}
use Rattle.cesr_codes.specs.Spelling.{IsDigest, IsKey}
use Rattle.json_tree.specs.declared.tree.Tree.{Tree}
use Rattle.sith.specs.Rules.{IsReadFor}
use Rattle.sith.specs.Thresholds.{Spells, threshold_value}
use Rattle.event_body.specs.BodyFields.Forms.{keys_value, digests_value}
use Rattle.event_body.specs.declared.event_body.key_set.KeySet.{KeySet}
use Rattle.event_body.specs.declared.event_body.body_fault.BodyFault.TheVariants.{Threshold}
use Rattle.event_body.specs.declared.event_body.body_fault.ReadBody.{ReadBody}
use Rattle.event_body.specs.declared.event_body.body_fault.ReadBody.TheVariants.{Fault, OutOfMemory}

-- the thresholds aren't as this says, or there was no memory
abbrev pub IsThresholdFault : Type 0 → ReadBody → Type 0
IsThresholdFault Rule (Fault Threshold) = ¬ Rule
IsThresholdFault Rule (Fault _) = ⊥
IsThresholdFault Rule OutOfMemory = Unit {0}

-- The values are those of a set of keys, with thresholds that are read for so many.
pub record AreOfKeySet (set : KeySet) (kt keys nt next : Tree) : Type 0 where
  pub kt_is : kt ≡ threshold_value set.kt
  pub kt_spells : Spells set.kt kt
  pub kt_read : IsReadFor set.kt (length set.keys)
  pub keys_are : keys ≡ keys_value set.keys
  pub keys_held : AllByRecursion IsKey set.keys
  pub nt_is : nt ≡ threshold_value set.nt
  pub nt_spells : Spells set.nt nt
  pub nt_read : IsReadFor set.nt (length set.next)
  pub next_are : next ≡ digests_value set.next
  pub next_held : AllByRecursion IsDigest set.next
