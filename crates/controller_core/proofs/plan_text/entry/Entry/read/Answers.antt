use Rattle.std.proofs.Common.{Result, Ok, Err, IfOk}
use Rattle.controller_core.specs.declared.plan_text.line_fault.LineFault.{LineFault}
use Rattle.controller_core.proofs.PlanTextLemmas.Names.{line_of, says_of}
use Rattle.controller_core.proofs.plan_text.entry.Entry.read.Goals as goal

if_ok : {A : Type 0} (P Q : A → Type 0) (r : Result A LineFault) → ((a : A) → P a → Q a) → IfOk r P → IfOk r Q
if_ok P Q (Ok a) step is = step a is
if_ok P Q (Err fault) step is = is

pub returns-clause-some : goal.returns-clause-some
returns-clause-some c =
    if_ok _ _ c.read_value.result (line_of c.args.kind c.args.line.now c.in-Some.name.now c.in-Some.value.now c.in-Some-of.name c.in-Some.ensures.some c.in-Some-of.ensures.some) c.read_value.ensures.some

pub returns-clause-only : goal.returns-clause-only
returns-clause-only c = λ entry is.
    c.read_value.ensures.only entry (says_of c.args.kind c.args.line.now c.in-Some.name.now c.in-Some.value.now c.in-Some-of.name c.in-Some.ensures.some c.in-Some-of.ensures.some entry is)
