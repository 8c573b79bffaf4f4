use Rattle.std.proofs.Common.{◌+◌, ◌*◌, ◌-◌, arith, append_assoc}
use Rattle.blake3_hash.proofs.Bytes.{take-part}
use Rattle.blake3_hash.proofs.hasher.Hasher.add_each.Goals as goal

pub chunks-preserved : goal.chunks-preserved
chunks-preserved c =
    let n = c.chunks.n in
    let more = take-part 1024 c.args.bytes.now n (1024 * (n + 1)) (1024 * n + 1024 - 1024 * n) (omega arith) (omega arith) in
    record {
      none_open = c.add_chunk.ensures.used;
      count = omega (arith, c.add_chunk.ensures.count, c.chunks.invariant.count);
      has = λ before has. rw (more, ← append_assoc) (c.add_chunk.ensures.has _ (c.chunks.invariant.has before has));
    }
