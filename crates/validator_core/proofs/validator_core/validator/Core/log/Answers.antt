use Rattle.std.proofs.Common.{◌∙◌, sym, ap, subst}
use Rattle.std.specs.Prelude.{IfOk}
use Rattle.journal.specs.Journal.Journals.{chosen}
use Rattle.journal.specs.Journal.Logs.{live}
use Rattle.validator_core.proofs.TableChangesLemmas.Events.{if_ok_then}
use Rattle.validator_core.specs.ValidatorCore.Confluent.{IsSoInAlike}
use Rattle.validator_core.specs.ValidatorCore.Inside.{core_of}
use Rattle.validator_core.proofs.ValidatorCoreLemmas.Confluent.{log_in_alike}
use Rattle.validator_core.proofs.validator_core.validator.Core.log.Goals as goal

pub returns-clause-confluent : goal.returns-clause-confluent
returns-clause-confluent c =
    let i = c.self.inside in
    let held = i.tables.held in
    let prefix = c.args.prefix.now in
    let numbers = c.numbers.ensures ∙ ap (λ log. log.numbers) c.log.ensures in
    subst (λ core. IfOk c.live.result (λ found. IsSoInAlike core (λ log. live log prefix) (chosen core.held found.items))) c.self.view_is
    (if_ok_then c.live.result (c.live.ensures.live held (sym c.events.ensures)) (λ found is. log_in_alike (core_of i) prefix (chosen held found.items)
    (is ∙ ap (λ ns. live (chosen held ns) prefix) numbers ∙ ap (λ log. live log prefix) c.self.invariant.log_is)))
