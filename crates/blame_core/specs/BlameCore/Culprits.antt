-- Witnesses with a signature on both of two bodies.
use Rattle.std.specs.Prelude.{◌≡◌, List, Option, Some, None, if◌then◌else◌}
use Rattle.std.specs.BTreeSet.{BTreeSet, contains}
use Rattle.cesr_codes.specs.declared.key.Key.{Key}
use Rattle.cesr_codes.specs.declared.sig.Sig.{Sig}
use Rattle.key_state.specs.Same.{has_key}
use Rattle.blame_core.specs.BlameCore.FirstSignatures.{key_cmp}
use Rattle.blame_core.specs.declared.blame_core.culprit.Culprit.{Culprit}

-- the key with both signatures, where both are there
abbrev pub with_both : Key → Option Sig → Option Sig → Option Culprit
with_both key None other = None
with_both key (Some one) None = None
with_both key (Some one) (Some other) = Some (record { key = key; one = one; other = other })

-- the same, where the key is in the other list too
abbrev pub culprit_of : List Key → (Key → Option Sig) → (Key → Option Sig) → Key → Option Culprit
culprit_of others one other key = if has_key others key then with_both key (one key) (other key) else None

-- the set has just the keys of the list
abbrev pub HasKeys : List Key → BTreeSet Key → Type 0
HasKeys keys set = (k : Key) → contains key_cmp set k ≡ has_key keys k
