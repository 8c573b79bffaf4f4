use Rattle.std.proofs.Common.{take}
use Rattle.std.specs.List.{AllByRecursion}
use Rattle.json_tree.specs.Spelling.{IsJson, IsJsonMember}
use Rattle.json_tree.proofs.grammar.+check.Given as goal

-- the values so far are of the grammar
abbrev pub invariant-are_json-loop-value : goal.invariant-are_json-loop-value
invariant-are_json-loop-value l = AllByRecursion IsJson (take l.value-index l.value-items)

abbrev pub invariant-are_json_members-loop-member : goal.invariant-are_json_members-loop-member
invariant-are_json_members-loop-member l = AllByRecursion IsJsonMember (take l.member-index l.member-items)
