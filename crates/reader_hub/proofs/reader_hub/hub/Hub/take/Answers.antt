use Rattle.std.proofs.Common.{rules, of_calls, ◌≡◌, subst}
use Rattle.std.specs.Prelude.{IfOk, OnErr}
use Rattle.validator_core.specs.ValidatorCore.View.{told_of}
use Rattle.turn_lock.specs.Locks.{known}
use Rattle.reader_hub.specs.ReaderHub.Hubs.{TakesOver, head_of}
use Rattle.reader_hub.proofs.ReaderHubLemmas.Appending.{take_appends}
use Rattle.reader_hub.proofs.ReaderHubLemmas.Turns.{meets, stops, took_turn}
use Rattle.reader_hub.proofs.reader_hub.hub.Hub.take.Goals as goal

pub with_turn-requires-clause-act : goal.with_turn-requires-clause-act
with_turn-requires-clause-act g c = λ x meets. (
  search of_calls parts 8,
  λ r y gave.
      let head : head_of y.core ≡ head_of x.core = search rules in
      let ok : IfOk r (λ reply. TakesOver x.core.limits (told_of x.core) (known c.args.pass.now).number c.args.message.now reply (told_of y.core)) = search rules in
      let err : OnErr r (told_of y.core ≡ told_of x.core) = search rules in
      take_appends x y (known c.args.pass.now).number head c.args.message.now r ok err,
)

pub returns-in-Ok-Ok-clause-takes : goal.returns-in-Ok-Ok-clause-takes
returns-in-Ok-Ok-clause-takes g c =
    let t = c.in-Ok-Ok.ensures.turned in
    let TakesSo = TakesOver t.met.core.limits (told_of t.met.core) (known c.args.pass.now).number c.args.message.now c.in-Ok-Ok.reply in
    let takes : TakesSo (told_of t.left.core) = search rules in
    record { meets = meets t; more = t.es; takes = subst TakesSo t.appends.longer takes; turn = took_turn t }

pub returns-in-Ok-Err-clause-stops : goal.returns-in-Ok-Err-clause-stops
returns-in-Ok-Err-clause-stops g c =
    let t = c.in-Ok-Err.ensures.turned in
    let same : told_of t.left.core ≡ told_of t.met.core = search rules in
    stops t same
