use Rattle.command_words.proofs.Shapes.{new_has_shape, with_argument, with_last_argument}
use Rattle.command_words.proofs.form.witness.Goals as goal

pub returns : goal.returns
returns c =
    let none = new_has_shape _ _ c.new.ensures.app c.new.ensures.local in
    let helper = with_argument _ _ _ _ _ none c.wanted.ensures.rule c.wanted.ensures.local _ c.in_ok-arg.ensures in
    let prefix = with_argument _ _ _ _ _ helper c.wanted-2.ensures.rule c.wanted-2.ensures.local _ c.in_ok-arg-2.ensures in
    let shelf = with_argument _ _ _ _ _ prefix c.wanted-3.ensures.rule c.wanted-3.ensures.local _ c.in_ok-arg-3.ensures in
    let from = with_argument _ _ _ _ _ shelf c.option.ensures.rule c.option.ensures.local _ c.in_ok-arg-4.ensures in
    let listen = with_argument _ _ _ _ _ from c.option-2.ensures.rule c.option-2.ensures.local _ c.in_ok-arg-5.ensures in
    let links = with_argument _ _ _ _ _ listen c.option-3.ensures.rule c.option-3.ensures.local _ c.in_ok-arg-6.ensures in
    with_last_argument _ _ _ _ _ links c.maybe_file.ensures.rule c.maybe_file.ensures.local c.arg-7.result c.arg-7.ensures
