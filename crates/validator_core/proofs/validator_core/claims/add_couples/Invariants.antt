use Rattle.std.proofs.Common.{◌≡◌, ◌++◌, map, take}
use Rattle.journal.specs.declared.journal.claim.Claim.TheVariants.{Couple as CoupleClaim}
use Rattle.validator_core.proofs.validator_core.claims.add_couples.Given as goal

abbrev pub invariant-loop-couple : goal.invariant-loop-couple
invariant-loop-couple l = l.claims ≡ l.initial.claims ++ map (λ c. CoupleClaim c.key c.sig) (take l.couple-index l.couples)
