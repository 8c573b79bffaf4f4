use Rattle.std.proofs.Common.{◌≡◌, ◌∙◌}
use Rattle.journal.specs.declared.journal.question.Noted.TheVariants.{New}
use Rattle.validator_core.specs.ValidatorCore.View.{base_of, told_of}
use Rattle.validator_core.proofs.ValidatorCoreLemmas.OpenQuestions.{open_question}
use Rattle.validator_core.proofs.validator_core.validator.Core.note.Goals as goal

pub returns-in-Ok-clause-fewer : goal.returns-in-Ok-clause-fewer
returns-in-Ok-clause-fewer c =
    let core = c.args.self.now in
    let found = open_question core.mode (base_of core) (told_of core) core.held c.args.question.now c.requires in
    let answers = rw found.1 at c.in-Ok.ensures.answers.answers in
    c.in-Ok.ensures.fewer (answers.0 ∙ found.2)

pub returns-in-Ok-clause-noted : goal.returns-in-Ok-clause-noted
returns-in-Ok-clause-noted c =
    let core = c.args.self.now in
    let found = open_question core.mode (base_of core) (told_of core) core.held c.args.question.now c.requires in
    let answers = rw found.1 at c.in-Ok.ensures.answers.answers in
    let is_new : c.in-Ok.field-0 ≡ New = answers.0 ∙ found.2 in
    record { body = found.0; is_held = found.1; behind = rw is_new at answers.1; follows = c.in-Ok.ensures.answers.follows }
