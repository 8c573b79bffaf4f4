use Rattle.std.proofs.Common.{[], ◌∷◌, ◌++◌, refl, subst, sym}
use Rattle.cesr_codes.specs.Spelling.{key_text}
use Rattle.verifier_link.specs.declared.letter.Letter.{Letter}
use Rattle.verifier_link.specs.Fields.{the_key, the_sig, letter_code}
use Rattle.keri_outside.specs.Shown.{source_shown}
use Rattle.verifier_link.specs.Stops.{StopsBehind}
use Rattle.verifier_link.proofs.Behind.{behind_more, field_behind, if_err}
use Rattle.verifier_link.proofs.question_fields.read_wanted.Goals as goal

pub returns-in_err-key-clause-err : goal.returns-in_err-key-clause-err
returns-in_err-key-clause-err g c =
    let told = source_shown g.S.Source.left g.S.Source.faults in
    if_err c.from_residual.result c.in_err-key.field-0.0 _ c.from_residual.ensures.1
    (field_behind the_key (letter_code c.args.letter ∷ []) c.args.room.now (told c.args.source.now) (told c.read_key.new.source) (c.args.letter, refl) c.in_err-key.field-0.0 c.in_err-key.ensures.err)

pub returns-in_err-read_sig-in-Verdict-clause-err :
    goal.returns-in_err-read_sig-in-Verdict-clause-err
returns-in_err-read_sig-in-Verdict-clause-err g c =
    let told = source_shown g.S.Source.left g.S.Source.faults in
    let key = c.in_ok-key.key in
    let stop = c.in_err-read_sig-in-Verdict.field-0.0 in
    let (valid, taken) = c.in_ok-key.ensures.ok in
    let middle = told c.read_key.new.source in
    let new = told c.read_sig.new.source in
    if_err c.from_residual-in_err-read_sig-in-Verdict.result stop _ c.from_residual-in_err-read_sig-in-Verdict.ensures.1
    (behind_more c.args.room.now c.read_key.new.room (told c.args.source.now) middle new (key_text key) taken (letter_code c.args.letter ∷ []) stop
    (subst (λ (letter : Letter). StopsBehind ((letter_code letter ∷ []) ++ key_text key) c.read_key.new.room middle new stop) (sym c.in-Verdict.is)
    (field_behind the_sig (86 ∷ key_text key) c.read_key.new.room middle new (key, valid, refl) stop c.in_err-read_sig-in-Verdict.ensures.err)))
