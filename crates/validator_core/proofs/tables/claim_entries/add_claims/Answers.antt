use Rattle.std.proofs.Common.{subst, sym}
use Rattle.std.specs.Prelude.{Contains}
use Rattle.std.proofs.lemmas.List.{take_all}
use Rattle.escrow.specs.EventIndex.Keys.{numbers_at}
use Rattle.validator_core.specs.Tables.Names.{claim_key}
use Rattle.validator_core.proofs.TablesLemmas.AddedNumbers.{added_more, keeps_more}
use Rattle.validator_core.proofs.TablesLemmas.Orders.{claim_cmp}
use Rattle.validator_core.proofs.tables.claim_entries.add_claims.Goals as goal

pub returns-in_err-add-clause-kept : goal.returns-in_err-add-clause-kept
returns-in_err-add-clause-kept c = keeps_more c.args.number (numbers_at claim_cmp c.args.many.now) (numbers_at claim_cmp c.loop-claim.many) (numbers_at claim_cmp c.add.new.self) c.loop-claim.invariant.kept c.add.ensures.kept

pub loop-claim-preserved : goal.loop-claim-preserved
loop-claim-preserved c = record {
  added = added_more (claim_key c.args.body) c.args.claims.now c.loop-claim.claim-index c.claim-item.result (numbers_at claim_cmp c.loop-claim.many) (numbers_at claim_cmp c.add.new.self) c.args.number
      c.claim-item.is c.loop-claim-test.true c.loop-claim.invariant.added c.in_ok-add.ensures.level c.in_ok-add.ensures.added;
  kept = keeps_more c.args.number (numbers_at claim_cmp c.args.many.now) (numbers_at claim_cmp c.loop-claim.many) (numbers_at claim_cmp c.add.new.self) c.loop-claim.invariant.kept c.add.ensures.kept;
}

pub returns-clause-added : goal.returns-clause-added
returns-clause-added c = λ x has. c.loop-claim.invariant.added x (subst (λ xs. Contains xs x) (sym (take_all c.loop-claim.claim-index c.args.claims.now c.loop-claim-test.false)) has)
