use Rattle.std.proofs.Common.{◌≡◌, ◌++◌, take}
use Rattle.std.specs.Prelude.{filter_map}
use Rattle.std.specs.Option.{option_copied}
use Rattle.validator_core.specs.ValidatorCore.Signatures.{good_claim}
use Rattle.key_state.specs.Exposure.{own_rules}
use Rattle.validator_core.specs.Acceptance.Entries.{says_in}
use Rattle.validator_core.proofs.validator_core.signatures.add_good.Given as goal

-- the good ones so far are added
abbrev pub invariant-loop-claim : goal.invariant-loop-claim
invariant-loop-claim l = l.found.items ≡ l.fn.found.items ++ filter_map (good_claim (says_in l.fn.tables.claims.rows l.fn.number) (own_rules (option_copied l.fn.state) l.fn.event)) (take l.claim-index l.claims)
