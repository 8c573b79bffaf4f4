use Rattle.std.proofs.Common.{◌≡◌, take}
use Rattle.std.specs.Prelude.{Some, filter_map, flat_map, slice_get}
use Rattle.std.specs.Option.{option_copied}
use Rattle.validator_core.specs.Tables.Raised.{claims_at}
use Rattle.validator_core.specs.ValidatorCore.Signatures.{good_claim}
use Rattle.journal.specs.declared.journal.body.Body.{Body}
use Rattle.key_state.specs.Exposure.{own_rules}
use Rattle.validator_core.specs.Acceptance.Entries.{says_in}
use Rattle.validator_core.proofs.validator_core.signatures.signatures_behind.Given as goal

-- those by the entries so far are found
abbrev pub invariant-loop-entry : goal.invariant-loop-entry
invariant-loop-entry l = (b : Body) → slice_get l.fn.tables.held l.fn.number ≡ Some b
    → l.found.items ≡ flat_map (λ i. filter_map (good_claim (says_in l.fn.tables.claims.rows l.fn.number) (own_rules (option_copied l.fn.state) l.fn.event)) (claims_at l.fn.tables.held b (slice_get l.fn.tables.entries i))) (take l.entry-index l.entries)
