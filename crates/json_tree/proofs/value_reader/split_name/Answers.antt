use Rattle.std.proofs.Common.{sym, ◌∙◌}
use Rattle.json_tree.proofs.StringParts.{string_unique}
use Rattle.json_tree.proofs.Unique.{behind_byte}
use Rattle.json_tree.proofs.value_reader.split_name.Goals as goal

pub returns-in-None-clause-none : goal.returns-in-None-clause-none
returns-in-None-clause-none c = λ name rest is e.
    let read = c.in-Some-split_string.ensures.some in
    let text = behind_byte 34 _ _ (sym c.in-Some.ensures.some ∙ e) in
    let same = string_unique _ name _ _ read.0 is (sym read.1 ∙ text) in
    c.in-None.ensures.none rest same.1
