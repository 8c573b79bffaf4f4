use Rattle.std.proofs.Common.{◌∙◌, ◌+◌, ◌*◌, ◌≤◌, length, ap, arith}
use Rattle.std.specs.Int.{w32, to_le_bytes}
use Rattle.std.specs.List.{flat_map}
use Rattle.blake3_hash.specs.Hasher.{HasBytes, Holds}
use Rattle.blake3_hash.specs.Stack.{EndsAfter, root_flag}
use Rattle.blake3_hash.specs.Tree.{blake3}
use Rattle.blake3_hash.proofs.Bytes.{tree_from-last}
use Rattle.blake3_hash.proofs.hasher.Hasher.finish.Goals as goal

pub returns : goal.returns
unfolding Holds HasBytes blake3
returns c = record {
  digest = λ bytes held.
      let s = c.args.self.now in
      let n = s.stack.count in
      let has = held.0 in
      let short : length bytes ≤ 1024 * (n + 1) = omega (arith, has.0, s.in_chunk) in
      let ends : EndsAfter n bytes = (λ some. omega (arith, has.0, held.1 some), short) in
      let last = tree_from-last n c.count-count.result bytes _ (root_flag n) c.root_flag.result _ short has.2 c.chunk_value-last.ensures c.count-count.ensures
      (c.root_flag.ensures ∙ ap root_flag c.count-count.ensures) in
      c.bytes_of.ensures ∙ ap (flat_map (to_le_bytes w32)) (c.root.ensures bytes ends has.1 last);
}
