use Rattle.command_words.proofs.Shapes.{new_has_shape, with_last_argument}
use Rattle.command_words.proofs.form.check.Goals as goal

pub returns : goal.returns
returns c =
    let none = new_has_shape _ _ c.new.ensures.app c.new.ensures.local in
    with_last_argument _ _ _ _ _ none c.file.ensures.rule c.file.ensures.local c.arg.result c.arg.ensures
