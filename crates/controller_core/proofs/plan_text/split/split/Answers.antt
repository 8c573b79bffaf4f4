use Rattle.std.proofs.Common.{sym, ◌∙◌}
use Rattle.controller_core.proofs.PlanTextLemmas.Parts.{found, not_found}
use Rattle.controller_core.proofs.plan_text.split.split.Goals as goal

pub returns-in_default-clause-none : goal.returns-in_default-clause-none
returns-in_default-clause-none c = not_found c.args.separator c.args.bytes.now (sym c.place_of.ensures ∙ c.in_default.is)

pub returns-clause-some : goal.returns-clause-some
returns-clause-some c = found c.args.separator c.args.bytes.now c.in-Some.place (sym c.place_of.ensures ∙ c.in-Some.is)
