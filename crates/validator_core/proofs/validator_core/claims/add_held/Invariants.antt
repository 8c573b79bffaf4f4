use Rattle.std.proofs.Common.{◌≡◌, ◌++◌, map, take}
use Rattle.journal.specs.declared.journal.claim.Claim.TheVariants.{Controller}
use Rattle.validator_core.proofs.validator_core.claims.add_held.Given as goal

abbrev pub invariant-loop-sig : goal.invariant-loop-sig
invariant-loop-sig l = l.claims ≡ l.initial.claims ++ map (λ s. Controller s) (take l.sig-index l.sigs)
