use Rattle.std.specs.BTreeSet.{contains}
use Rattle.controller_core.specs.PlanText.Drafts.{digest_cmp}
use Rattle.controller_core.proofs.PlanTextLemmas.Reuse.{key_at}
use Rattle.controller_core.proofs.plan_text.reuse.commitments.Goals as goal

pub loop-key-preserved : goal.loop-key-preserved
loop-key-preserved c = key_at c.args.keys.now c.loop-key.key-index _ c.loop-key-test.true (contains digest_cmp c.loop-key.known) (contains digest_cmp c.put_commitments.new.known)
    c.loop-key.invariant c.in_ok-put_commitments.ensures
