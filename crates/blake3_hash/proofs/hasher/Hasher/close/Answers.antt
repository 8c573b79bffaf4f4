use Rattle.std.proofs.Common.{◌≡◌, ◌∙◌, ◌+◌, ◌*◌, length, take, drop, sym, arith}
use Rattle.std.proofs.lemmas.List.{drop_all, take_all}
use Rattle.blake3_hash.specs.Hasher.{HasBytes}
use Rattle.blake3_hash.proofs.Bytes.{subtree-last}
use Rattle.blake3_hash.proofs.hasher.Hasher.close.Goals as goal

pub returns-clause-has : goal.returns-clause-has
unfolding HasBytes
returns-clause-has c = λ before has.
    let s = c.args.self.now in
    let counted = c.push.ensures.counted in
    let whole : length before ≡ 1024 * (s.stack.count + 1) = omega (arith, has.0) in
    let held : take 1024 s.chunk ≡ drop (1024 * s.stack.count) before = rw c.requires at has.2 in
    let chunk = sym held ∙ take_all 1024 s.chunk (omega arith) in
    let value = subtree-last s.stack.count c.count.result before s.chunk _ whole chunk c.chunk_value-value.ensures c.count.ensures in (
      omega (arith, has.0),
      c.push.ensures.subtrees before (omega arith) has.1 value,
      sym (drop_all (1024 * c.push.new.self.count) before (omega arith)),
    )
