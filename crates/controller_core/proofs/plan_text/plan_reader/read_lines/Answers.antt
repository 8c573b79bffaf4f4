use Rattle.std.proofs.Common.{◌≡◌, ◌≢◌, [], subst, arith}
use Rattle.std.proofs.lemmas.Grind.{common_steps}
use Rattle.controller_core.specs.PlanText.Drafts.{sheet}
use Rattle.controller_core.proofs.PlanTextLemmas.Sheets.{once_in}
use Rattle.controller_core.proofs.PlanTextLemmas.SoFar.{IsSoFar, start, step, fewer_left, bad_line, none_then, read_of, sheet_is}
use Rattle.controller_core.proofs.plan_text.plan_reader.read_lines.Goals as goal

pub loop-rest-init : goal.loop-rest-init
loop-rest-init c = start c.args.kind c.args.text.now (sheet c.new-draft.result) c.new-draft.ensures

pub returns-in-Err-Refused-clause-fault : goal.returns-in-Err-Refused-clause-fault
returns-in-Err-Refused-clause-fault c =
    let more : c.loop-rest.rest.now ≢ [] = grind (arith, common_steps) in
    bad_line c.args.kind c.args.text.now c.loop-rest.rest.now (sheet c.loop-rest.draft) c.loop-rest.number c.loop-rest.invariant more (once_in c.loop-rest.draft) (c.in-Err-Refused.ensures.refused c.in-Err-Refused.field-0-is)

pub returns-in-Err-Refused-clause-only : goal.returns-in-Err-Refused-clause-only
returns-in-Err-Refused-clause-only c = λ entries lines once.
    let more : c.loop-rest.rest.now ≢ [] = grind (arith, common_steps) in
    absurd (none_then c.args.kind c.args.text.now c.loop-rest.rest.now (sheet c.loop-rest.draft) c.loop-rest.number c.loop-rest.invariant more (c.in-Err-Refused.ensures.refused c.in-Err-Refused.field-0-is) entries lines once)

pub overflow_add-number : goal.overflow_add-number
overflow_add-number c = let so = c.loop-rest.invariant in omega (arith, so.short)

pub loop-rest-smaller : goal.loop-rest-smaller
loop-rest-smaller c = fewer_left c.args.kind c.loop-rest.rest.now c.in-Ok.behind.now c.loop-rest.number (sheet c.loop-rest.draft) (sheet c.take_line.new.self) c.in-Ok.ensures.some

pub loop-rest-preserved : goal.loop-rest-preserved
loop-rest-preserved c = step c.args.kind c.args.text.now c.loop-rest.rest.now c.in-Ok.behind.now (sheet c.loop-rest.draft) (sheet c.take_line.new.self) c.loop-rest.number c.loop-rest.invariant c.in-Ok.ensures.some

pub returns-clause-ok : goal.returns-clause-ok
returns-clause-ok c =
    let end : c.loop-rest.rest.now ≡ [] = grind (arith, common_steps) in
    read_of c.args.kind c.args.text.now (sheet c.loop-rest.draft) c.loop-rest.number
    (subst (λ r. IsSoFar c.args.kind c.args.text.now r (sheet c.loop-rest.draft) c.loop-rest.number) end c.loop-rest.invariant) (once_in c.loop-rest.draft)

pub returns-clause-only : goal.returns-clause-only
returns-clause-only c = λ entries lines once.
    let end : c.loop-rest.rest.now ≡ [] = grind (arith, common_steps) in
    sheet_is c.args.kind c.args.text.now (sheet c.loop-rest.draft) c.loop-rest.number
    (subst (λ r. IsSoFar c.args.kind c.args.text.now r (sheet c.loop-rest.draft) c.loop-rest.number) end c.loop-rest.invariant) entries lines
