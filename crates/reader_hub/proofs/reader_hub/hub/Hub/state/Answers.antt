use Rattle.std.proofs.Common.{rules, ◌≡◌}
use Rattle.validator_core.specs.ValidatorCore.View.{told_of}
use Rattle.reader_hub.proofs.ReaderHubLemmas.Turns.{meets, stops, took_nothing}
use Rattle.reader_hub.proofs.reader_hub.hub.Hub.state.Goals as goal

pub returns-in-Ok-Ok-clause-state : goal.returns-in-Ok-Ok-clause-state
returns-in-Ok-Ok-clause-state g c =
    let t = c.in-Ok-Ok.ensures.turned in
    let same : told_of t.left.core ≡ told_of t.met.core = search rules in
    record { meets = meets t; found_is = search rules; turn = took_nothing t same }

pub returns-in-Ok-Err-clause-stops : goal.returns-in-Ok-Err-clause-stops
returns-in-Ok-Err-clause-stops g c =
    let t = c.in-Ok-Err.ensures.turned in
    let same : told_of t.left.core ≡ told_of t.met.core = search rules in
    stops t same
