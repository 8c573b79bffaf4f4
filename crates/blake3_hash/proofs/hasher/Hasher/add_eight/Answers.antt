use Rattle.std.proofs.Common.{◌≡◌, ◌∙◌, ◌+◌, ◌*◌, ◌++◌, List, ℕ, length, sym, ap, arith, length-append}
use Rattle.std.proofs.lemmas.List.{drop_all}
use Rattle.blake3_hash.specs.Hasher.{HasBytes}
use Rattle.blake3_hash.specs.Tree.{tree}
use Rattle.blake3_hash.proofs.Bytes.{subtree-eight}
use Rattle.blake3_hash.proofs.Subtrees.{HasSubtrees-append}
use Rattle.blake3_hash.proofs.hasher.Hasher.add_eight.Goals as goal

pub returns-clause-has : goal.returns-clause-has
unfolding HasBytes
returns-clause-has c = λ before has.
    let s = c.args.self.now in
    let group = c.args.group.now in
    let bytes : List ℕ = before ++ group in
    let len = length-append before group in
    let at : length before ≡ 1024 * s.stack.count = omega (arith, has.0) in
    let whole : length bytes ≡ 1024 * (s.stack.count + 8) = omega arith in
    let kept = HasSubtrees-append s.stack.values s.stack.count before group (omega arith) has.1 in
    let value = c.tree8-eight.ensures ∙ ap (λ (n : ℕ). tree n group 0) c.count.ensures in (
      omega (arith, has.0),
      c.push8.ensures.subtrees bytes (omega arith) kept (subtree-eight s.stack.count before group _ at c.requires.eights (omega arith) value),
      rw c.requires.none_open (sym (drop_all (1024 * c.push8.new.self.count) bytes (omega arith))),
    )
