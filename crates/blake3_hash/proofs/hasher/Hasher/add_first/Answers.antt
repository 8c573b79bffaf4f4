use Rattle.std.proofs.Common.{◌≡◌, ◌∙◌, ◌+◌, ◌*◌, ◌++◌, List, ℕ, length, take, sym, ap, ap₂, arith, length-append}
use Rattle.std.proofs.lemmas.List.{drop_all, length-take}
use Rattle.blake3_hash.specs.Hasher.{HasBytes}
use Rattle.blake3_hash.specs.Chunk.{chunk_value}
use Rattle.blake3_hash.specs.Stack.{subtree}
use Rattle.blake3_hash.proofs.Blocks.{whole_chunk-front}
use Rattle.blake3_hash.proofs.Bytes.{subtree-added}
use Rattle.blake3_hash.proofs.Subtrees.{HasSubtrees-append}
use Rattle.blake3_hash.proofs.hasher.Hasher.add_first.Goals as goal

pub values-preserved : goal.values-preserved
values-preserved c =
    let i = c.values.i in
    let counted = c.values.invariant.count in
    record {
      none_open = c.values.invariant.none_open;
      count = omega (arith, c.push.ensures.counted, counted);
      subtrees = λ bytes fits has are.
          c.push.ensures.subtrees bytes (omega (arith, counted)) (c.values.invariant.subtrees bytes fits has are)
          (are i (omega arith) ∙ ap (λ (n : ℕ). subtree 0 n bytes) (sym counted));
    }

pub returns-clause-has : goal.returns-clause-has
unfolding HasBytes
returns-clause-has c = λ before has.
    let s = c.args.self.now in
    let chunks = c.args.chunks in
    let more : List ℕ = take (1024 * chunks) c.args.group.now in
    let bytes : List ℕ = before ++ more in
    let counted = c.values.invariant.count in
    let long : length more ≡ 1024 * chunks = omega (arith, length-take (1024 * chunks) c.args.group.now) in
    let len = length-append before more in
    let at : length before ≡ 1024 * s.stack.count = omega (arith, has.0) in
    let whole : length bytes ≡ 1024 * (s.stack.count + chunks) = omega arith in
    let kept = HasSubtrees-append s.stack.values s.stack.count before more (omega arith) has.1 in (
      omega (arith, has.0),
      c.values.invariant.subtrees bytes (omega arith) kept (λ j low.
          subtree-added s.stack.count j before more _ at
          (c.lanes8-values.ensures j (omega arith)
          ∙ ap₂ (λ (n : ℕ) (k : List ℕ). chunk_value (n + j) k 0) c.count.ensures (sym (whole_chunk-front (1024 * chunks) c.args.group.now j (omega arith))))),
      rw c.values.invariant.none_open (sym (drop_all (1024 * c.values.self.stack.count) bytes (omega arith))),
    )
