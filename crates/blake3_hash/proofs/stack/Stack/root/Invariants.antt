use Rattle.std.proofs.Common.{◌≡◌, ◌≤◌, ◌/◌, ◌^◌, List, ℕ}
use Rattle.blake3_hash.specs.Stack.{EndsAfter, HasSubtrees, root_flag, tree_from}
use Rattle.blake3_hash.proofs.stack.Stack.root.Given as goal

abbrev pub invariant-merges : goal.invariant-merges
invariant-merges l = record {
  high : l.height ≤ 54;
  halved : l.self.count / 2 ^ l.height ≡ l.left;
  merged : (bytes : List ℕ) → EndsAfter l.self.count bytes → HasSubtrees l.self.values l.self.count bytes
      → l.fn.last ≡ tree_from 0 l.self.count bytes (root_flag l.self.count) → l.value ≡ tree_from l.height l.left bytes (root_flag l.left);
}

abbrev pub decreases-merges : goal.decreases-merges
decreases-merges l = l.left
