use Rattle.std.proofs.Common.{sym, ◌∙◌}
use Rattle.std.specs.BTreeSet.{contains}
use Rattle.controller_core.specs.PlanText.Drafts.{digest_cmp}
use Rattle.controller_core.proofs.PlanTextLemmas.Reuse.{first_at, none_promised, promise_at}
use Rattle.controller_core.proofs.plan_text.reuse.first_reuse.Goals as goal

pub loop-promise-init : goal.loop-promise-init
loop-promise-init c = none_promised c.args.keys.now (contains digest_cmp c.in_ok-known.known) c.in_ok-known.ensures

pub returns-then-not-branch-clause-some : goal.returns-then-not-branch-clause-some
returns-then-not-branch-clause-some c = first_at c.args.keys.now c.args.promises.now c.loop-promise.promise-index _ c.loop-promise-test.true (contains digest_cmp c.loop-promise.known) c.loop-promise.invariant
    (sym c.in_ok-put.ensures.new ∙ c.if-not-branch.true)

pub loop-promise-preserved : goal.loop-promise-preserved
loop-promise-preserved c = promise_at c.args.keys.now c.args.promises.now c.loop-promise.promise-index _ c.loop-promise-test.true (contains digest_cmp c.loop-promise.known) c.loop-promise.invariant
    (contains digest_cmp c.put.new.known) c.in_ok-put.ensures.put (sym c.in_ok-put.ensures.new ∙ c.if-not-branch.false)
