use Rattle.std.proofs.lemmas.List.Elements.{Contains-append_left, Contains-append_right}
use Rattle.claim_table.specs.ClaimTable.Hinted.{few_at}
use Rattle.escrow.specs.EventIndex.Keys.{numbers_at}
use Rattle.validator_core.specs.Tables.ClaimEntries.{claim_cmp}
use Rattle.validator_core.specs.Tables.Names.{claim_key}
use Rattle.validator_core.proofs.TablesLemmas.AddedNumbers.{hinted_still, under_ok}
use Rattle.validator_core.proofs.tables.claim_entries.ClaimEntries.add.Goals as goal

pub returns-in_err-add_few-clause-kept : goal.returns-in_err-add_few-clause-kept
returns-in_err-add_few-clause-kept c = λ q n lt h.
    hinted_still (few_at c.args.self.now.few q.body) _ (numbers_at claim_cmp c.args.self.now.many q) _ n (c.in_err-add_few.ensures.kept q.body n) (λ k. k) h

pub returns-then-branch-clause-added : goal.returns-then-branch-clause-added
returns-then-branch-clause-added c = λ x has.
    Contains-append_left (few_at c.add_few.new.few c.args.body) (numbers_at claim_cmp c.args.self.now.many (claim_key c.args.body x)) c.args.number (c.in_ok-add_few.ensures.added c.if-branch.true)

pub returns-then-branch-clause-kept : goal.returns-then-branch-clause-kept
returns-then-branch-clause-kept c = λ q n lt h.
    hinted_still (few_at c.args.self.now.few q.body) _ (numbers_at claim_cmp c.args.self.now.many q) _ n (c.in_ok-add_few.ensures.kept q.body n) (λ k. k) h

pub returns-clause-added : goal.returns-clause-added
returns-clause-added c = under_ok c.add_claims.result c.add_claims.ensures.added
    (λ all x has. Contains-append_right (few_at c.add_few.new.few c.args.body) (numbers_at claim_cmp c.add_claims.new.many (claim_key c.args.body x)) c.args.number (all x has))

pub returns-clause-kept : goal.returns-clause-kept
returns-clause-kept c = λ q n lt h.
    hinted_still (few_at c.args.self.now.few q.body) _ (numbers_at claim_cmp c.args.self.now.many q) _ n (c.in_ok-add_few.ensures.kept q.body n) (c.add_claims.ensures.kept q n lt) h
