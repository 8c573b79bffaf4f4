use Rattle.std.proofs.Common.{◌≡◌, ◌+◌, ◌*◌, ◌++◌, List, ℕ, take}
use Rattle.blake3_hash.specs.Hasher.{HasBytes}
use Rattle.blake3_hash.proofs.hasher.Hasher.add_each.Given as goal

abbrev pub invariant-chunks : goal.invariant-chunks
invariant-chunks l = record {
  none_open : l.self.used ≡ 0;
  count : l.self.stack.count ≡ l.fn.self.stack.count + l.n;
  has : (before : List ℕ) → HasBytes l.fn.self before → HasBytes l.self (before ++ take (1024 * l.n) l.bytes);
}
