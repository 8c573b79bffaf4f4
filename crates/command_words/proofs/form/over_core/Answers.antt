use Rattle.command_words.proofs.Shapes.{new_has_shape, with_argument, with_last_argument}
use Rattle.command_words.proofs.form.over_core.Goals as goal

pub returns : goal.returns
returns c =
    let none = new_has_shape _ _ c.new.ensures.app c.new.ensures.local in
    let helper = with_argument _ _ _ _ _ none c.wanted.ensures.rule c.wanted.ensures.local _ c.in_ok-arg.ensures in
    let listen = with_argument _ _ _ _ _ helper c.option.ensures.rule c.option.ensures.local _ c.in_ok-arg-2.ensures in
    let links = with_argument _ _ _ _ _ listen c.option-2.ensures.rule c.option-2.ensures.local _ c.in_ok-arg-3.ensures in
    with_last_argument _ _ _ _ _ links c.maybe_files.ensures.rule c.maybe_files.ensures.local c.arg-4.result c.arg-4.ensures
