use Rattle.std.proofs.Common.{take}
use Rattle.std.specs.Prelude.{Contains}
use Rattle.escrow.specs.EventIndex.Keys.{numbers_at}
use Rattle.journal.specs.declared.journal.claim.Claim.{Claim}
use Rattle.validator_core.specs.Tables.Hints.{KeepsBelow}
use Rattle.validator_core.specs.Tables.Names.{claim_key}
use Rattle.validator_core.proofs.TablesLemmas.Orders.{claim_cmp}
use Rattle.validator_core.proofs.tables.claim_entries.add_claims.Given as goal

abbrev pub invariant-loop-claim : goal.invariant-loop-claim
invariant-loop-claim l = record {
  added : (c : Claim) → Contains (take l.claim-index l.claims) c → Contains (numbers_at claim_cmp l.many (claim_key l.body c)) l.number;
  kept : KeepsBelow l.number (numbers_at claim_cmp l.initial.many) (numbers_at claim_cmp l.many);
}
