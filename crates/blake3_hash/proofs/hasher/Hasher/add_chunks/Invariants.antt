use Rattle.std.proofs.Common.{◌≡◌, ◌+◌, ◌*◌, ◌++◌, List, ℕ, take}
use Rattle.blake3_hash.specs.Hasher.{HasBytes}
use Rattle.blake3_hash.proofs.hasher.Hasher.add_chunks.Given as goal

abbrev pub invariant-groups : goal.invariant-groups
invariant-groups l = record {
  none_open : l.self.used ≡ 0;
  count : l.self.stack.count ≡ l.fn.self.stack.count + 8 * l.n;
  has : (before : List ℕ) → HasBytes l.fn.self before → HasBytes l.self (before ++ take (8192 * l.n) l.bytes);
}
