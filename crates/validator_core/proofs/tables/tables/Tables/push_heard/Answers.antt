use Rattle.std.proofs.Common.{◌<◌, length, subst, sym}
use Rattle.validator_core.specs.Tables.Inside.{view_of}
use Rattle.validator_core.specs.Tables.View.{View}
use Rattle.validator_core.proofs.TablesLemmas.LastEntry.{on_err, view_entered, view_kept}
use Rattle.validator_core.proofs.TablesLemmas.Hints.{hinted_heard}
use Rattle.validator_core.proofs.tables.tables.Tables.push_heard.Goals as goal

pub invariant_of-self : goal.invariant_of-self
invariant_of-self c = rw c.in_err-push.ensures.err c.self.invariant

pub returns-in_err-push-clause-err : goal.returns-in_err-push-clause-err
returns-in_err-push-clause-err c = on_err c.from_residual.result (view_kept (view_of c.self.inside) c.args.self.now c.push.new.self c.self.view_is c.in_err-push.ensures.err)

pub invariant_of-self-2 : goal.invariant_of-self-2
invariant_of-self-2 c =
    let held = subst (λ (v : View). c.args.question.now.body < length v.held) (sym c.self.view_is) c.requires.held in
    rw c.in_ok-push.ensures.ok (c.self.invariant.0, c.self.invariant.1, hinted_heard c.self.invariant.2 _ (λ r n cs e. cc) held)

pub returns-clause-ok : goal.returns-clause-ok
returns-clause-ok c = view_entered (view_of c.self.inside) c.args.self.now c.push.new.self _ c.self.view_is c.in_ok-push.ensures.ok
