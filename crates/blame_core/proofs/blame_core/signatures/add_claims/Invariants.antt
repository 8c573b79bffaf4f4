use Rattle.std.proofs.Common.{◌≡◌, ◌++◌, map, take}
use Rattle.journal.specs.Journal.History.{claimed_sig}
use Rattle.blame_core.proofs.blame_core.signatures.add_claims.Given as goal

abbrev pub invariant-loop-claim : goal.invariant-loop-claim
invariant-loop-claim l = l.came.items ≡ l.initial.came.items ++ map claimed_sig (take l.claim-index l.claims)
