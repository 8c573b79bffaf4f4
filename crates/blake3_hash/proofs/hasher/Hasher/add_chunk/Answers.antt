use Rattle.std.proofs.Common.{◌≡◌, ◌+◌, ◌*◌, ◌++◌, List, ℕ, length, sym, arith, length-append}
use Rattle.std.proofs.lemmas.List.{drop_all, drop_at}
use Rattle.blake3_hash.specs.Hasher.{HasBytes}
use Rattle.blake3_hash.proofs.Bytes.{subtree-last}
use Rattle.blake3_hash.proofs.Subtrees.{HasSubtrees-append}
use Rattle.blake3_hash.proofs.hasher.Hasher.add_chunk.Goals as goal

pub returns-clause-has : goal.returns-clause-has
unfolding HasBytes
returns-clause-has c = λ before has.
    let s = c.args.self.now in
    let chunk = c.args.chunk.now in
    let bytes : List ℕ = before ++ chunk in
    let counted = c.push.ensures.counted in
    let len = length-append before chunk in
    let at : length before ≡ 1024 * s.stack.count = omega (arith, has.0) in
    let whole : length bytes ≡ 1024 * (s.stack.count + 1) = omega arith in
    let value = subtree-last s.stack.count c.count.result bytes chunk _ whole (drop_at before chunk (1024 * s.stack.count) at) c.chunk_value-value.ensures c.count.ensures in
    let kept = HasSubtrees-append s.stack.values s.stack.count before chunk (omega arith) has.1 in (
      omega (arith, has.0),
      c.push.ensures.subtrees bytes (omega arith) kept value,
      rw c.requires.none_open (sym (drop_all (1024 * c.push.new.self.count) bytes (omega arith))),
    )
