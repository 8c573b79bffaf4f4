use Rattle.std.proofs.Common.{◌≡◌, Ok, ap, inl, rules}
use Rattle.controller_core.specs.PlanText.Drafts.{sheet}
use Rattle.controller_core.specs.PlanText.Promises.{HasFirstReuse}
use Rattle.controller_core.proofs.PlanTextLemmas.PlanTexts.{cause_of, no_plan_in, no_reuse, plan_in, reuse_in}
use Rattle.controller_core.proofs.plan_text.plan_reader.read_plan.Goals as goal

pub returns-in-Err-clause-fault : goal.returns-in-Err-clause-fault
returns-in-Err-clause-fault c = cause_of c.args.bytes.now c.in-Some.kind c.in-Some.lines.now c.in-Some.ensures.some c.in-Err.fault c.in-Err.ensures.fault

pub returns-in_default-finish-clause-fault : goal.returns-in_default-finish-clause-fault
returns-in_default-finish-clause-fault c =
    no_plan_in c.args.bytes.now c.in-Some.kind c.in-Some.lines.now c.in-Some.ensures.some (sheet c.in-Ok.draft) c.in-Ok.ensures.ok (λ plan is. cc (c.in_default-finish.ensures.only plan is))

pub returns-in_default-finish-clause-only : goal.returns-in_default-finish-clause-only
returns-in_default-finish-clause-only c = λ plan is.
    let found = plan_in c.args.bytes.now c.in-Some.kind c.in-Some.lines.now c.in-Some.ensures.some (sheet c.in-Ok.draft) c.in-Ok.ensures.only plan is in
    absurd (cc (c.in_default-finish.ensures.only plan found))

pub returns-in-Ok-None-clause-only : goal.returns-in-Ok-None-clause-only
returns-in-Ok-None-clause-only c = λ plan is.
    let found = plan_in c.args.bytes.now c.in-Some.kind c.in-Some.lines.now c.in-Some.ensures.some (sheet c.in-Ok.draft) c.in-Ok.ensures.only plan is in
    let same : c.in-Some-finish.plan ≡ plan = cc (c.in-Some-finish.ensures.only plan found) in
    inl (ap Ok same)

pub returns-in-Ok-Some-clause-fault : goal.returns-in-Ok-Some-clause-fault
returns-in-Ok-Some-clause-fault c =
    let first : HasFirstReuse (sheet c.in-Ok.draft) c.in-Ok-Some.line = search rules in
    reuse_in c.args.bytes.now c.in-Some.kind c.in-Some.lines.now c.in-Some.ensures.some (sheet c.in-Ok.draft) c.in-Ok.ensures.ok c.in-Some-finish.plan c.in-Some-finish.ensures.some c.in-Ok-Some.line first

pub returns-in-Ok-Some-clause-only : goal.returns-in-Ok-Some-clause-only
returns-in-Ok-Some-clause-only c = λ plan is.
    let first : HasFirstReuse (sheet c.in-Ok.draft) c.in-Ok-Some.line = search rules in
    absurd (no_reuse c.args.bytes.now c.in-Some.kind c.in-Some.lines.now c.in-Some.ensures.some (sheet c.in-Ok.draft) c.in-Ok.ensures.only c.in-Ok-Some.line first plan is)
