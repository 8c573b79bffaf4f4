use Rattle.std.proofs.Common.{length}
use Rattle.controller_core.specs.PlanText.Drafts.{sheet}
use Rattle.controller_core.proofs.PlanTextLemmas.SoFar.{IsSoFar}
use Rattle.controller_core.proofs.plan_text.plan_reader.read_lines.Given as goal

abbrev pub invariant-loop-rest : goal.invariant-loop-rest
invariant-loop-rest l = IsSoFar l.fn.kind l.fn.text l.rest (sheet l.draft) l.number

abbrev pub decreases-loop-rest : goal.decreases-loop-rest
decreases-loop-rest l = length l.rest
