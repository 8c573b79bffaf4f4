use Rattle.std.proofs.Common.{ap, inr, Err}
use Rattle.json_tree.specs.declared.tree.Tree.TheVariants.{Str}
use Rattle.controller_core.proofs.PlanTextLemmas.Given.{fault_given}
use Rattle.controller_core.proofs.plan_text.json_value.read_trait.Goals as goal

pub returns-clause-only : goal.returns-clause-only
returns-clause-only c = λ text is. inr (ap (λ f. Err f) (fault_given c.in-Err.fault (Str text) (c.in-Err.ensures.only (Str text) is)))
