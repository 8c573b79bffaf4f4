use Rattle.std.proofs.Common.{◌<◌, sym, ◌∙◌, subst}
use Rattle.claim_table.specs.ClaimTable.Rows.{is_raised, verdict_of}
use Rattle.journal.specs.declared.journal.question.Noted.TheVariants.{New, Known, Unasked}
use Rattle.validator_core.specs.TableChanges.Entries.{signature_asked}
use Rattle.validator_core.specs.ValidatorCore.Calls.{TakesVerdict}
use Rattle.validator_core.specs.ValidatorCore.Looks.{LooksByVerdict}
use Rattle.validator_core.proofs.ValidatorCoreLemmas.NotedVerdicts.{core_answered, few_new, fewer, found_none, found_some, raised_held, takes_known, takes_new, takes_unasked}
use Rattle.validator_core.specs.ValidatorCore.View.{unheard_of}
use Rattle.validator_core.proofs.ValidatorCoreLemmas.Cores.{seen}
use Rattle.validator_core.proofs.validator_core.validator.Core.answer.Goals as goal

pub add_verdict-requires-clause-held : goal.add_verdict-requires-clause-held
add_verdict-requires-clause-held c =
    let i = c.self.inside in
    let s = signature_asked c.args.question.now in
    let found = found_some (is_raised i.tables.claims.rows s) (verdict_of i.tables.claims.rows s) _ (sym c.in-Some-None.is ∙ c.verdict_on.ensures) in
    raised_held i.mode i.limits i.base i.tables i.tally c.self.invariant c.args.reader c.args.question.now c.args.yes found.0

pub invariant_of-self-in-Some-None : goal.invariant_of-self-in-Some-None
invariant_of-self-in-Some-None c =
    let i = c.self.inside in
    let s = signature_asked c.args.question.now in
    let found = found_some (is_raised i.tables.claims.rows s) (verdict_of i.tables.claims.rows s) _ (sym c.in-Some-None.is ∙ c.verdict_on.ensures) in
    core_answered i.mode i.limits i.base i.tables i.tally c.self.invariant c.args.reader c.args.question.now c.args.yes found.0 (found.1 ∙ c.in-Some-None.field-0-is)
    c.add_verdict.new.tables _ _ c.in_ok-add_verdict-in-Some-None.ensures.ok

pub returns-in-None-clause-answers : goal.returns-in-None-clause-answers
returns-in-None-clause-answers c =
    let i = c.self.inside in
    let s = signature_asked c.args.question.now in
    subst (λ core. TakesVerdict core c.args.reader c.args.question.now c.args.yes Unasked core) c.self.view_is
    (takes_unasked i.mode i.limits i.base i.tables i.tally c.self.invariant c.args.reader c.args.question.now c.args.yes
    (found_none (is_raised i.tables.claims.rows s) (verdict_of i.tables.claims.rows s) (sym c.in-None.is ∙ c.verdict_on.ensures)))

pub returns-in-Some-Some-clause-answers : goal.returns-in-Some-Some-clause-answers
returns-in-Some-Some-clause-answers c =
    let i = c.self.inside in
    let s = signature_asked c.args.question.now in
    let found = found_some (is_raised i.tables.claims.rows s) (verdict_of i.tables.claims.rows s) _ (sym c.in-Some-Some.is ∙ c.verdict_on.ensures) in
    subst (λ core. TakesVerdict core c.args.reader c.args.question.now c.args.yes Known core) c.self.view_is
    (takes_known i.mode i.limits i.base i.tables i.tally c.self.invariant c.args.reader c.args.question.now c.args.yes found.0 c.in-Some-Some.field-0-0 (found.1 ∙ c.in-Some-Some.field-0-is))

pub returns-in_ok-add_verdict-in-Some-None-clause-answers : goal.returns-in_ok-add_verdict-in-Some-None-clause-answers
returns-in_ok-add_verdict-in-Some-None-clause-answers c =
    let i = c.self.inside in
    let s = signature_asked c.args.question.now in
    let found = found_some (is_raised i.tables.claims.rows s) (verdict_of i.tables.claims.rows s) _ (sym c.in-Some-None.is ∙ c.verdict_on.ensures) in
    subst (λ core. TakesVerdict core c.args.reader c.args.question.now c.args.yes New (seen i.mode i.limits i.base c.add_verdict.new.tables)) c.self.view_is
    (takes_new i.mode i.limits i.base i.tables i.tally c.self.invariant c.args.reader c.args.question.now c.args.yes found.0 (found.1 ∙ c.in-Some-None.field-0-is)
    c.add_verdict.new.tables _ _ c.in_ok-add_verdict-in-Some-None.ensures.ok)

pub returns-in_ok-add_verdict-in-Some-None-clause-fewer : goal.returns-in_ok-add_verdict-in-Some-None-clause-fewer
returns-in_ok-add_verdict-in-Some-None-clause-fewer c = λ is_new.
    (let i = c.self.inside in
    let s = signature_asked c.args.question.now in
    let found = found_some (is_raised i.tables.claims.rows s) (verdict_of i.tables.claims.rows s) _ (sym c.in-Some-None.is ∙ c.verdict_on.ensures) in
    subst (λ core. unheard_of (seen i.mode i.limits i.base c.add_verdict.new.tables) < unheard_of core) c.self.view_is
    (fewer i.mode i.limits i.base i.tables i.tally c.self.invariant c.args.reader c.args.question.now c.args.yes found.0 (found.1 ∙ c.in-Some-None.field-0-is)
    c.add_verdict.new.tables _ _ c.in_ok-add_verdict-in-Some-None.ensures.ok))

pub returns-in_ok-add_verdict-in-Some-None-clause-few : goal.returns-in_ok-add_verdict-in-Some-None-clause-few
returns-in_ok-add_verdict-in-Some-None-clause-few c =
    let i = c.self.inside in
    let s = signature_asked c.args.question.now in
    let found = found_some (is_raised i.tables.claims.rows s) (verdict_of i.tables.claims.rows s) _ (sym c.in-Some-None.is ∙ c.verdict_on.ensures) in
    subst (λ core. LooksByVerdict core c.args.question.now New (seen i.mode i.limits i.base c.add_verdict.new.tables) c.args.steps.now c.add_verdict.new.steps) c.self.view_is
    (few_new i.mode i.limits i.base i.tables i.tally c.self.invariant c.args.reader c.args.question.now c.args.yes found.0 (found.1 ∙ c.in-Some-None.field-0-is)
    c.add_verdict.new.tables _ _ c.in_ok-add_verdict-in-Some-None.ensures.ok)
