-- What a core finds by what it accepted is so in every journal that is alike.
use Rattle.std.proofs.Common.{◌≡◌, List, [], ◌∙◌, ap, take}
use Rattle.cesr_codes.specs.declared.prefix.Prefix.{Prefix}
use Rattle.key_state.specs.States.{State}
use Rattle.std.specs.Prelude.{Option}
use Rattle.journal.specs.declared.journal.body.Body.{Body}
use Rattle.journal.specs.Journal.Accepted.{accepted}
use Rattle.journal.specs.Journal.Logs.{live, state}
use Rattle.journal_views.proofs.JournalLawsLemmas.Same.{confluence}
use Rattle.validator_core.specs.ValidatorCore.Confluent.{IsSoInAlike}
use Rattle.validator_core.specs.ValidatorCore.View.{CoreView, accepted_by, told_of}

-- a core that began with nothing has no base
nothing_before : {T : Type 0} (core : CoreView) (given : List Body → T) → core.base ≡ 0
    → given (accepted_by core) ≡ given (accepted core.mode [] (told_of core))
nothing_before core given none = ap (λ n. given (accepted core.mode (take n core.held) (told_of core))) none

-- LOG
pub log_in_alike : (core : CoreView) (prefix : Prefix) (found : List Body) → found ≡ live (accepted_by core) prefix
    → IsSoInAlike core (λ log. live log prefix) found
log_in_alike core prefix found is none other alike =
    is ∙ nothing_before core (λ log. live log prefix) none ∙ (confluence core.mode (told_of core) other alike).live_events prefix

-- STATE
pub state_in_alike : (core : CoreView) (prefix : Prefix) (found : Option State) → found ≡ state (accepted_by core) prefix
    → IsSoInAlike core (λ log. state log prefix) found
state_in_alike core prefix found is none other alike =
    is ∙ nothing_before core (λ log. state log prefix) none ∙ (confluence core.mode (told_of core) other alike).states prefix
