use Rattle.std.proofs.Common.{◌≡◌, [], ◌∷◌, ◌++◌, ◌∙◌, length, take, sym, ap, subst, arith, append_assoc}
use Rattle.std.proofs.lemmas.List.{length-take}
use Rattle.verifier_link.specs.Fields.{IsCut, the_length, the_body, letter_code}
use Rattle.verifier_link.specs.Questions.{length_text, wanted_text}
use Rattle.keri_outside.specs.Shown.{source_shown}
use Rattle.verifier_link.proofs.Behind.{behind_more, cut_field, field_behind, if_err, taken_more}
use Rattle.verifier_link.proofs.question_fields.read_behind.Goals as goal

pub returns-in_err-read_size-clause-err : goal.returns-in_err-read_size-clause-err
returns-in_err-read_size-clause-err g c =
    let told = source_shown g.S.Source.left g.S.Source.faults in
    let front = letter_code c.args.letter ∷ [] in
    let stop = c.in_err-read_size.field-0.0 in
    let (valid, completes) = c.in_ok-wanted.ensures.ok in
    let middle = told c.read_wanted.new.source in
    let new = told c.read_size.new.source in
    if_err c.from_residual-in_err-read_size.result stop _ c.from_residual-in_err-read_size.ensures.1
    (behind_more c.args.room.now c.read_wanted.new.room (told c.args.source.now) middle new completes.bytes completes.taken front stop
    (field_behind the_length (front ++ completes.bytes) c.read_wanted.new.room middle new (c.in_ok-wanted.wanted, valid, sym completes.is) stop c.in_err-read_size.ensures.err))

pub returns-in_err-take_field-clause-err : goal.returns-in_err-take_field-clause-err
returns-in_err-take_field-clause-err g c =
    let told = source_shown g.S.Source.left g.S.Source.faults in
    let front = letter_code c.args.letter ∷ [] in
    let stop = c.in_err-take_field.field-0.0 in
    let wanted = c.in_ok-wanted.wanted in
    let size = c.in_ok-read_size.field-0 in
    let (valid, completes) = c.in_ok-wanted.ensures.ok in
    let (few, sized) = c.in_ok-read_size.ensures.ok in
    let old = told c.args.source.now in
    let middle = told c.read_size.new.source in
    let new = told c.take_field.new.source in
    let room = c.read_size.new.room in
    let same = c.from-size.ensures in
    let whole : length (take c.from-size.result c.args.buffer.now) ≡ size = omega (arith, length-take c.from-size.result c.args.buffer.now, same, few) in
    let are : front ++ (completes.bytes ++ length_text size) ≡ wanted_text wanted ++ length_text size
    = sym (append_assoc front completes.bytes (length_text size)) ∙ ap (λ t. t ++ length_text size) (sym completes.is) in
    let taken = taken_more c.args.room.now c.read_wanted.new.room room old (told c.read_wanted.new.source) middle completes.bytes (length_text size) completes.taken sized in
    let cut = cut_field (the_body size) room middle new stop (subst (λ n. IsCut n room middle new stop) whole c.in_err-take_field.ensures.err) in
    if_err c.from_residual-in_err-take_field.result stop _ c.from_residual-in_err-take_field.ensures.1
    (behind_more c.args.room.now room old middle new (completes.bytes ++ length_text size) taken front stop
    (field_behind (the_body size) (front ++ (completes.bytes ++ length_text size)) room middle new (wanted, valid, few, are) stop cut))
