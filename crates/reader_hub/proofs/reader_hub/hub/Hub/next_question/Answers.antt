use Rattle.std.proofs.Common.{rules, of_calls, ◌≡◌}
use Rattle.validator_core.specs.ValidatorCore.View.{told_of}
use Rattle.turn_lock.specs.Locks.{known}
use Rattle.reader_hub.specs.ReaderHub.Hubs.{IsAsked, head_of}
use Rattle.reader_hub.proofs.ReaderHubLemmas.Appending.{none}
use Rattle.reader_hub.proofs.ReaderHubLemmas.Turns.{meets, stops, took_nothing}
use Rattle.reader_hub.proofs.reader_hub.hub.Hub.next_question.Goals as goal

pub with_turn-requires-clause-act : goal.with_turn-requires-clause-act
with_turn-requires-clause-act g c = λ x meets. (
  search of_calls parts 8,
  λ r y gave.
      let head : head_of y.core ≡ head_of x.core = search rules in
      let same : told_of y.core ≡ told_of x.core = search rules in
      none x y (known c.args.pass.now).number head same,
)

pub returns-in-Ok-Ok-clause-asks : goal.returns-in-Ok-Ok-clause-asks
returns-in-Ok-Ok-clause-asks g c =
    let t = c.in-Ok-Ok.ensures.turned in
    let same : told_of t.left.core ≡ told_of t.met.core = search rules in
    let is : IsAsked t.met.core.mode (told_of t.met.core) c.in-Ok-Ok.answer c.args.extent = search rules in
    record { meets = meets t; asked = is; turn = took_nothing t same }

pub returns-in-Ok-Err-clause-stops : goal.returns-in-Ok-Err-clause-stops
returns-in-Ok-Err-clause-stops g c =
    let t = c.in-Ok-Err.ensures.turned in
    let same : told_of t.left.core ≡ told_of t.met.core = search rules in
    stops t same
