use Rattle.std.specs.BTreeSet.{contains}
use Rattle.controller_core.specs.PlanText.Drafts.{digest_cmp}
use Rattle.controller_core.proofs.PlanTextLemmas.Reuse.{one_more}
use Rattle.controller_core.proofs.plan_text.reuse.put.Goals as goal

pub returns-clause-put : goal.returns-clause-put
returns-clause-put c = one_more c.args.digest (contains digest_cmp c.args.known.now) (contains digest_cmp c.insert.new.self) c.in_ok-insert.ensures.updates.0
