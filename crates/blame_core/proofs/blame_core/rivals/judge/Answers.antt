use Rattle.std.proofs.Common.{sym}
use Rattle.std.proofs.lemmas.Result.{IfOk-weaker}
use Rattle.blame_core.specs.BlameCore.Rivals.{Answers, Judges, beside}
use Rattle.blame_core.proofs.blame_core.rivals.judge.Goals as goal

pub returns-in-Some : goal.returns-in-Some
returns-in-Some c =
    let first = c.args.first.now in let second = c.args.second.now in let one = c.args.one.now in
    IfOk-weaker c.compare.result (Answers first second one c.in-Some.other.now) (Judges first second one c.args.others.now.entries)
    (λ o answers. beside (sym c.in-Some.ensures.value) answers) c.compare.ensures
