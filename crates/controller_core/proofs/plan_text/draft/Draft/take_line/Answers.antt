use Rattle.std.proofs.Common.{◌≡◌, sym, subst, ◌∙◌}
use Rattle.controller_core.specs.PlanText.Entries.{IsLine}
use Rattle.controller_core.specs.PlanText.Sheets.{IsOnce}
use Rattle.controller_core.specs.PlanText.Drafts.{push, sheet}
use Rattle.controller_core.proofs.PlanTextLemmas.Given.{same_given, fault_given}
use Rattle.controller_core.proofs.plan_text.draft.Draft.take_line.Goals as goal

pub returns-in-Err-clause-refused : goal.returns-in-Err-clause-refused
returns-in-Err-clause-refused c = λ refused is line rest first spells once.
    let line_is : line ≡ c.in-Some.line.now = first.front_is ∙ sym c.in-Some.ensures.some.front_is in
    let memory = fault_given c.in-Err.fault is (c.in-Err.ensures.only is (subst (λ l. IsLine c.args.kind l is) line_is spells)) in
    cc (memory, refused)

pub returns-in-Ok-add-clause-some : goal.returns-in-Ok-add-clause-some
returns-in-Ok-add-clause-some c = record {
  is = c.in-Ok.entry;
  line = c.in-Some.line.now;
  first = c.in-Some.ensures.some;
  spells = c.in-Ok.ensures.some;
  one = λ other spells. same_given c.in-Ok.entry other (c.in-Ok.ensures.only other spells);
  pushed = c.in-Ok-add.ensures.ok;
}

pub returns-in-Err-add-clause-refused : goal.returns-in-Err-add-clause-refused
returns-in-Err-add-clause-refused c = λ refused is line rest first spells once.
    let line_is : line ≡ c.in-Some.line.now = first.front_is ∙ sym c.in-Some.ensures.some.front_is in
    let same = same_given c.in-Ok.entry is (c.in-Ok.ensures.only is (subst (λ l. IsLine c.args.kind l is) line_is spells)) in
    c.in-Err-add.ensures.refused refused (subst (λ e. IsOnce (push c.args.number e (sheet c.args.self.now))) same once)
