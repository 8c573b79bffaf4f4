use Rattle.std.proofs.Common.{take}
use Rattle.std.specs.BTreeSet.{contains}
use Rattle.controller_core.specs.PlanText.Drafts.{digest_cmp}
use Rattle.controller_core.proofs.PlanTextLemmas.Reuse.{IsKnown}
use Rattle.controller_core.proofs.plan_text.reuse.first_reuse.Given as goal

-- what the keys and the promises so far are of is known, and none of these is of a key that was known
abbrev pub invariant-loop-promise : goal.invariant-loop-promise
invariant-loop-promise l = IsKnown l.keys (take l.promise-index l.promises) (contains digest_cmp l.known)
