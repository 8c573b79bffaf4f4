use Rattle.json_tree.proofs.Trees.{list_test, object_test}
use Rattle.json_tree.proofs.grammar.+check.Goals as goal

pub is_json-returns-in-List : goal.is_json-returns-in-List
is_json-returns-in-List t c = list_test _ _ _ c.in-List.is c.are_json.ensures

pub is_json-returns-in-Object : goal.is_json-returns-in-Object
is_json-returns-in-Object t c = object_test _ _ _ c.in-Object.is c.are_json_members.ensures
