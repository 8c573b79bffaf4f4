use Rattle.std.proofs.Common.{◌≡◌, Some, sym, ◌∙◌, ap, subst}
use Rattle.std.specs.Prelude.{slice_get}
use Rattle.journal.specs.declared.journal.body.Body.{Body}
use Rattle.journal.specs.declared.journal.reply.Reply.TheVariants.{LimitReached}
use Rattle.journal.proofs.JournalLemmas.Places.{some_at}
use Rattle.validator_core.specs.ValidatorCore.Calls.{TakesBody}
use Rattle.validator_core.specs.ValidatorCore.Looks.{LooksByReply}
use Rattle.validator_core.specs.ValidatorCore.Tables.{IsCore}
use Rattle.validator_core.specs.ValidatorCore.Tally.{tally_with}
use Rattle.validator_core.proofs.ValidatorCoreLemmas.Cores.{seen}
use Rattle.validator_core.proofs.ValidatorCoreLemmas.Takes.{core_held, few_held, takes_full_again, takes_held}
use Rattle.validator_core.proofs.validator_core.validator.Core.take_claims.Goals as goal

pub returns-then-is_spent-clause-takes : goal.returns-then-is_spent-clause-takes
returns-then-is_spent-clause-takes c =
    let i = c.self.inside in
    subst (λ core. (b : Body) → slice_get core.held c.args.number ≡ Some b → TakesBody core c.args.reader b c.args.claims LimitReached core) c.self.view_is
    (λ b at. takes_full_again i.mode i.limits i.base i.tables i.tally c.self.invariant c.args.reader b c.args.claims c.args.number at (rw c.len-count.ensures at (sym c.is_spent.ensures ∙ c.if-is_spent.true)))

pub invariant_of-self-2 : goal.invariant_of-self-2
invariant_of-self-2 c =
    let i = c.self.inside in
    let is = c.self.view_is in
    let b = some_at i.tables.held c.args.number (rw (← is) at c.requires.held) in
    subst (λ t. IsCore i.mode i.limits i.base c.add_claims.new.tables t) (sym (c.with-self-inside.ensures ∙ ap (tally_with i.tally 0) c.len-count.ensures))
    (core_held i.mode i.limits i.base i.tables i.tally c.self.invariant c.args.reader b.0 c.args.claims c.args.number b.1 (rw c.len-count.ensures at (sym c.is_spent.ensures ∙ c.if-is_spent.false))
    c.add_claims.new.tables _ _ c.in_ok-add_claims.ensures.ok)

pub returns-clause-takes : goal.returns-clause-takes
returns-clause-takes c =
    let i = c.self.inside in
    subst (λ core. (b : Body) → slice_get core.held c.args.number ≡ Some b → TakesBody core c.args.reader b c.args.claims c.reply_by.result (seen i.mode i.limits i.base c.add_claims.new.tables)) c.self.view_is
    (λ b at. subst (λ r. TakesBody (seen i.mode i.limits i.base i.tables) c.args.reader b c.args.claims r (seen i.mode i.limits i.base c.add_claims.new.tables)) (sym c.reply_by.ensures)
    (takes_held i.mode i.limits i.base i.tables i.tally c.self.invariant c.args.reader b c.args.claims c.args.number at (rw c.len-count.ensures at (sym c.is_spent.ensures ∙ c.if-is_spent.false))
    c.add_claims.new.tables _ _ c.in_ok-add_claims.ensures.ok c.have_come-again.result (rw c.as_slice.ensures at c.have_come-again.ensures)))

pub returns-clause-few : goal.returns-clause-few
returns-clause-few c =
    let i = c.self.inside in
    subst (λ core. (b : Body) → slice_get core.held c.args.number ≡ Some b → LooksByReply core b c.reply_by.result (seen i.mode i.limits i.base c.add_claims.new.tables) c.args.steps.now c.add_claims.new.steps) c.self.view_is
    (λ b at. subst (λ r. LooksByReply (seen i.mode i.limits i.base i.tables) b r (seen i.mode i.limits i.base c.add_claims.new.tables) c.args.steps.now c.add_claims.new.steps) (sym c.reply_by.ensures)
    (few_held i.mode i.limits i.base i.tables i.tally c.self.invariant c.args.reader b c.args.claims c.args.number at (rw c.len-count.ensures at (sym c.is_spent.ensures ∙ c.if-is_spent.false))
    c.add_claims.new.tables _ _ c.in_ok-add_claims.ensures.ok c.have_come-again.result))
