use Rattle.json_tree.proofs.Refusals.{none_str}
use Rattle.json_tree.proofs.value_reader.read_string.Goals as goal

pub returns-in_default-clause-none : goal.returns-in_default-clause-none
returns-in_default-clause-none c = λ depth same. none_str _ c.in_default.ensures.none depth
