use Rattle.std.proofs.Common.{◌∙◌, ap, subst}
use Rattle.std.specs.Option.{option_map}
use Rattle.validator_core.specs.Tables.AcceptedLog.Values.{last_of}
use Rattle.journal.specs.Journal.Logs.{state}
use Rattle.validator_core.specs.ValidatorCore.Confluent.{IsSoInAlike}
use Rattle.validator_core.specs.ValidatorCore.Inside.{core_of}
use Rattle.validator_core.proofs.ValidatorCoreLemmas.Confluent.{state_in_alike}
use Rattle.validator_core.proofs.validator_core.validator.Core.state.Goals as goal

pub returns-clause-confluent : goal.returns-clause-confluent
returns-clause-confluent c =
    let i = c.self.inside in
    let prefix = c.args.prefix.now in
    let current = c.current.ensures ∙ ap (λ log. last_of prefix log.states) c.log.ensures ∙ c.self.invariant.sound.log.current prefix in
    subst (λ core. IsSoInAlike core (λ log. state log prefix) (option_map (λ s. s.now) c.current.result)) c.self.view_is
    (state_in_alike (core_of i) prefix _ (current ∙ ap (λ log. state log prefix) c.self.invariant.log_is))
