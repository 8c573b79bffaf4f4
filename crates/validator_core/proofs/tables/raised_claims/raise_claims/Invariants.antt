use Rattle.std.proofs.Common.{take}
use Rattle.std.specs.Option.{option_copied}
use Rattle.validator_core.specs.Tables.RaisedRows.{RaisesRows}
use Rattle.validator_core.proofs.tables.raised_claims.raise_claims.Given as goal

abbrev pub invariant-loop-claim : goal.invariant-loop-claim
invariant-loop-claim l = RaisesRows l.number (option_copied l.state) l.event (take l.claim-index l.came) l.initial.claims l.claims
