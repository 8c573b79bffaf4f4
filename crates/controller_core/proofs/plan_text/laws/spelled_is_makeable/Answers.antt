use Rattle.controller_core.proofs.PlanTextLemmas.Makeable.{makeable}
use Rattle.controller_core.proofs.plan_text.laws.spelled_is_makeable.Goals as goal

pub returns : goal.returns
returns c = makeable
