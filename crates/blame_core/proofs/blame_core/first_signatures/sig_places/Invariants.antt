use Rattle.std.proofs.Common.{◌≡◌, take}
use Rattle.std.specs.Prelude.{position}
use Rattle.std.specs.BTreeMap.{get}
use Rattle.cesr_codes.specs.declared.sig.Sig.{Sig}
use Rattle.key_state.specs.Same.{same_sig}
use Rattle.blame_core.specs.BlameCore.FirstSignatures.{sig_cmp}
use Rattle.blame_core.proofs.blame_core.first_signatures.sig_places.Given as goal

-- those that came so far have their places
abbrev pub invariant-loop-place : goal.invariant-loop-place
invariant-loop-place l = (sig : Sig) → get sig_cmp l.places sig ≡ position (λ other. same_sig other sig) (take l.place l.came)
