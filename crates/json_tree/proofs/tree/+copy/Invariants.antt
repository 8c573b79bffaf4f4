use Rattle.std.proofs.Common.{◌≡◌, take}
use Rattle.json_tree.proofs.tree.+copy.Given as goal

-- the members so far are copied
abbrev pub invariant-copy_members-loop-member : goal.invariant-copy_members-loop-member
invariant-copy_members-loop-member l = l.copies.items ≡ take l.member-index l.member-items

-- the values so far are copied
abbrev pub invariant-copy_trees-loop-tree : goal.invariant-copy_trees-loop-tree
invariant-copy_trees-loop-tree l = l.copies.items ≡ take l.tree-index l.tree-items
