use Rattle.std.proofs.Common.{rules, ◌≡◌, [], subst}
use Rattle.std.specs.Prelude.{slice_get}
use Rattle.journal.specs.Journal.History.{bodies}
use Rattle.journal.specs.Journal.Journals.{AnswersOn}
use Rattle.validator_core.specs.ValidatorCore.View.{told_of}
use Rattle.turn_lock.specs.Locks.{known}
use Rattle.reader_hub.proofs.ReaderHubLemmas.Turns.{meets, stops, took_turn}
use Rattle.reader_hub.proofs.reader_hub.hub.Hub.answer.Goals as goal

pub returns-in-Ok-Ok-clause-answers : goal.returns-in-Ok-Ok-clause-answers
returns-in-Ok-Ok-clause-answers g c =
    let t = c.in-Ok-Ok.ensures.turned in
    let met = told_of t.met.core in
    let q = c.args.question.now in
    let AnswersSo = AnswersOn t.met.core.mode [] met (known c.args.pass.now).number (slice_get (bodies [] met) q.body) q c.args.yes c.in-Ok-Ok.noted in
    let answers : AnswersSo (told_of t.left.core) = search rules in
    record { meets = meets t; more = t.es; answers = subst AnswersSo t.appends.longer answers; turn = took_turn t }

pub returns-in-Ok-Err-clause-stops : goal.returns-in-Ok-Err-clause-stops
returns-in-Ok-Err-clause-stops g c =
    let t = c.in-Ok-Err.ensures.turned in
    let same : told_of t.left.core ≡ told_of t.met.core = search rules in
    stops t same
