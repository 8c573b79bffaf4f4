use Rattle.std.specs.Prelude.{[]}
use Rattle.escrow.specs.EventIndex.Keys.{numbers_at}
use Rattle.claim_table.specs.ClaimTable.Hinted.{few_at}
use Rattle.claim_table.proofs.ClaimTableLemmas.Hinted.{hinted_many, on_ok, still_hinted}
use Rattle.claim_table.proofs.claim_table.body_index.BodyIndex.add.Goals as goal

pub returns-in_err-add-clause-kept : goal.returns-in_err-add-clause-kept
returns-in_err-add-clause-kept g c = λ b q n lt h.
    still_hinted (few_at c.args.self.now.few b) _ (numbers_at g.K.Ord.cmp c.args.self.now.many q) (numbers_at g.K.Ord.cmp c.args.self.now.many q) n
    (c.in_err-add.ensures.kept b n) (c.in_err-add.ensures.still b) (λ k. k) h

pub returns-then-branch-clause-kept : goal.returns-then-branch-clause-kept
returns-then-branch-clause-kept g c = λ b q n lt h.
    still_hinted (few_at c.args.self.now.few b) _ (numbers_at g.K.Ord.cmp c.args.self.now.many q) (numbers_at g.K.Ord.cmp c.args.self.now.many q) n
    (c.in_ok-add.ensures.kept b n) (c.in_ok-add.ensures.still b) (λ k. k) h

pub returns-clause-added : goal.returns-clause-added
returns-clause-added g c = on_ok c.add-2.result (hinted_many [] (few_at c.add.new.self c.args.body) [] (numbers_at g.K.Ord.cmp c.add-2.new.self c.args.key) c.args.number (c.in_ok-add.ensures.full c.if-branch.false)) c.add-2.ensures.added

pub returns-clause-kept : goal.returns-clause-kept
returns-clause-kept g c = λ b q n lt h.
    still_hinted (few_at c.args.self.now.few b) _ (numbers_at g.K.Ord.cmp c.args.self.now.many q) (numbers_at g.K.Ord.cmp c.add-2.new.self q) n
    (c.in_ok-add.ensures.kept b n) (c.in_ok-add.ensures.still b) (c.add-2.ensures.kept q n lt) h
