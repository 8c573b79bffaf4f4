use Rattle.std.proofs.Common.{◌≡◌, ◌+◌, ◌*◌, ◌<◌, ◌≤◌, List, [], ℕ, length, slice_index_or}
use Rattle.blake3_hash.specs.Stack.{HasSubtrees, subtree}
use Rattle.blake3_hash.proofs.hasher.Hasher.add_first.Given as goal

abbrev pub invariant-values : goal.invariant-values
invariant-values l = record {
  none_open : l.self.used ≡ 0;
  count : l.self.stack.count ≡ l.fn.self.stack.count + l.i;
  subtrees : (bytes : List ℕ) → 1024 * (l.fn.self.stack.count + l.chunks) ≤ length bytes
      → HasSubtrees l.fn.self.stack.values l.fn.self.stack.count bytes
      → ((j : ℕ) → j < l.chunks → slice_index_or l.values j [] ≡ subtree 0 (l.fn.self.stack.count + j) bytes)
      → HasSubtrees l.self.stack.values l.self.stack.count bytes;
}
