use Rattle.verifier_link.specs.Fields.{letter_code}
use Rattle.keri_outside.specs.Shown.{source_shown}
use Rattle.verifier_link.proofs.Behind.{reading_behind}
use Rattle.verifier_link.proofs.question_fields.read_question.Goals as goal

pub returns-in-Err-clause-err : goal.returns-in-Err-clause-err
returns-in-Err-clause-err g c =
    let told = source_shown g.S.Source.left g.S.Source.faults in
    rw c.within_question.ensures
    (reading_behind (letter_code c.in_ok-letter.letter) c.args.room.now c.read_letter.new.room (told c.args.source.now) (told c.read_letter.new.source) (told c.read_behind.new.source) c.in_ok-letter.ensures.ok
    c.in-Err.stop c.in-Err.ensures.err)
