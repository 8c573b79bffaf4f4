use Rattle.std.proofs.Common.{◌≡◌, Some, take}
use Rattle.std.specs.BTreeSet.{contains}
use Rattle.std.specs.List.{list_any}
use Rattle.cesr_codes.specs.declared.digest.Digest.{Digest}
use Rattle.key_state.specs.Exposure.{commits}
use Rattle.controller_core.specs.PlanText.Drafts.{digest_cmp}
use Rattle.controller_core.proofs.plan_text.reuse.commitments.Given as goal

-- those of the keys so far are there
abbrev pub invariant-loop-key : goal.invariant-loop-key
invariant-loop-key l = (digest : Digest) → contains digest_cmp l.known digest ≡ list_any (λ key. commits (Some digest) (Some key)) (take l.key-index l.keys)
