use Rattle.std.proofs.Common.{◌≡◌, take}
use Rattle.lists.proofs.lists.items.ItemsCopyValue.copy.Given as goal

-- the values so far are copied
abbrev pub invariant-loop-item : goal.invariant-loop-item
invariant-loop-item g l = l.copies.items ≡ take l.item-index l.item-items
