use Rattle.std.proofs.Common.{◌≡◌, take}
use Rattle.std.specs.BTreeSet.{contains}
use Rattle.std.specs.List.{list_any}
use Rattle.journal.specs.Journal.Replies.{same_claim}
use Rattle.journal.specs.declared.journal.claim.Claim.{Claim}
use Rattle.key_state.specs.Same.{distinct}
use Rattle.export_core.proofs.ExportCoreLemmas.Orders.{claim_cmp}
use Rattle.export_core.proofs.export_core.good_claims.first_comings.Given as goal

-- the first comings so far are found, and what came so far is seen
abbrev pub invariant-loop-claim : goal.invariant-loop-claim
invariant-loop-claim l = record {
  firsts : l.firsts.items ≡ distinct same_claim (take l.claim-index l.claims);
  seen : (c : Claim) → contains claim_cmp l.seen c ≡ list_any (λ d. same_claim d c) (take l.claim-index l.claims);
}
