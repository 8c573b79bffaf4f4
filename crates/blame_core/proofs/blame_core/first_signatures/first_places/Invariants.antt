use Rattle.std.proofs.Common.{◌≡◌, take}
use Rattle.std.specs.Prelude.{position}
use Rattle.std.specs.BTreeMap.{get}
use Rattle.std.specs.List.{list_any}
use Rattle.cesr_codes.specs.declared.key.Key.{Key}
use Rattle.blame_core.specs.BlameCore.FirstSignatures.{is_signed, key_cmp}
use Rattle.blame_core.proofs.blame_core.first_signatures.first_places.Given as goal

-- the places are those by the good ones so far
abbrev pub invariant-loop-signed : goal.invariant-loop-signed
invariant-loop-signed l = (key : Key) → get key_cmp l.firsts key
    ≡ position (λ sig. list_any (is_signed key sig) (take l.signed-index l.good)) l.came
