use Rattle.json_tree.specs.Spelling.{spelling, member_text}
use Rattle.json_tree.proofs.Items.{written}
use Rattle.json_tree.proofs.Trees.{list_pushed, object_pushed}
use Rattle.json_tree.proofs.value_text.+write.Goals as goal

pub push_list-loop-value-preserved : goal.push_list-loop-value-preserved
push_list-loop-value-preserved t c =
    written spelling _ _ c.value-item.result _ _ _ _ c.loop-value-test.true c.value-item.is c.loop-value.invariant c.in_ok-push-2.ensures.items c.in_ok-push_tree-2.ensures

pub push_object-loop-member-preserved : goal.push_object-loop-member-preserved
push_object-loop-member-preserved t c =
    written member_text _ _ c.member-item.result _ _ _ _ c.loop-member-test.true c.member-item.is c.loop-member.invariant c.in_ok-push-2.ensures.items c.in_ok-push_member-2.ensures

pub push_tree-returns-in-List : goal.push_tree-returns-in-List
push_tree-returns-in-List t c = list_pushed c.push_list.result _ _ _ _ c.in-List.is c.push_list.ensures

pub push_tree-returns-in-Object : goal.push_tree-returns-in-Object
push_tree-returns-in-Object t c = object_pushed c.push_object.result _ _ _ _ c.in-Object.is c.push_object.ensures
