use Rattle.std.proofs.Common.{◌≡◌, ℕ, ◌+◌, ◌*◌, ◌/◌, ◌%◌, ◌^◌, ◌<◌, ◌≤◌, List, length}
use Rattle.blake3_hash.specs.Stack.{HasSubtrees, subtree}
use Rattle.blake3_hash.proofs.stack.Stack.completed.Given as goal

abbrev pub invariant-merges : goal.invariant-merges
invariant-merges l = let after : ℕ = (l.before + 1) * 2 ^ l.least in record {
  low : l.height < 54;
  halved : l.self.count / 2 ^ l.height ≡ l.left;
  carried : after / 2 ^ l.height ≡ l.left + 1;
  even_below : (j : ℕ) → j < l.height → (after / 2 ^ j) % 2 ≡ 0;
  merged : (bytes : List ℕ) → 1024 * after ≤ length bytes → HasSubtrees l.self.values l.self.count bytes
      → l.fn.next ≡ subtree l.least l.before bytes → l.value ≡ subtree l.height l.left bytes;
}

abbrev pub decreases-merges : goal.decreases-merges
decreases-merges l = l.left
