use Rattle.command_words.proofs.Shapes.{new_has_shape, with_argument, with_last_argument}
use Rattle.command_words.proofs.form.generate.Goals as goal

pub returns : goal.returns
returns c =
    let none = new_has_shape _ _ c.new.ensures.app c.new.ensures.local in
    let seed = with_argument _ _ _ _ _ none c.wanted.ensures.rule c.wanted.ensures.local _ c.in_ok-arg.ensures in
    let logs = with_argument _ _ _ _ _ seed c.wanted-2.ensures.rule c.wanted-2.ensures.local _ c.in_ok-arg-2.ensures in
    with_last_argument _ _ _ _ _ logs c.wanted-3.ensures.rule c.wanted-3.ensures.local c.arg-3.result c.arg-3.ensures
