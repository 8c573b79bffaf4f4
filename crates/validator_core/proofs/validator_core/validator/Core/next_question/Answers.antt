use Rattle.std.proofs.Common.{None, length, sym, ◌∙◌, subst}
use Rattle.journal.specs.Journal.Journals.{Names}
use Rattle.journal.specs.Journal.Questions.{next_question}
use Rattle.validator_core.specs.ValidatorCore.View.{base_of, told_of}
use Rattle.validator_core.proofs.ValidatorCoreLemmas.Questions.{next_none, next_some}
use Rattle.validator_core.proofs.validator_core.validator.Core.next_question.Goals as goal

pub returns-then-count-eq0 : goal.returns-then-count-eq0
returns-then-count-eq0 c =
    let i = c.self.inside in
    let below = c.self.invariant.sound.claims.below in
    subst (λ core. Names core.held None (next_question core.mode (base_of core) (told_of core) c.args.skip)) c.self.view_is
    (next_none i.mode i.limits i.base i.tables i.tally c.self.invariant c.args.skip (sym c.if-count-eq0.true ∙ rw c.claims-claims.ensures at c.open_count-count.ensures (length i.tables.held) below))

pub returns : goal.returns
returns c =
    let i = c.self.inside in
    let below = c.self.invariant.sound.claims.below in
    subst (λ core. Names core.held c.question_at.result (next_question core.mode (base_of core) (told_of core) c.args.skip)) c.self.view_is
    (next_some i.mode i.limits i.base i.tables i.tally c.self.invariant c.args.skip c.open_count-count.result c.question_at.result
    (rw c.claims-claims.ensures at c.open_count-count.ensures (length i.tables.held) below) (rw c.claims-claims.ensures at c.question_at.ensures (length i.tables.held) below))
