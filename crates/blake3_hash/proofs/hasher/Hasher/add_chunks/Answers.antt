use Rattle.std.proofs.Common.{◌+◌, ◌*◌, ◌-◌, arith, append_assoc}
use Rattle.blake3_hash.proofs.Bytes.{take-part}
use Rattle.blake3_hash.proofs.hasher.Hasher.add_chunks.Goals as goal

pub groups-preserved : goal.groups-preserved
groups-preserved c =
    let n = c.groups.n in
    let more = take-part 8192 c.args.bytes.now n (8192 * (n + 1)) (8192 * n + 8192 - 8192 * n) (omega arith) (omega arith) in
    record {
      none_open = c.add_group.ensures.used;
      count = omega (arith, c.add_group.ensures.count, c.groups.invariant.count);
      has = λ before has. rw (more, ← append_assoc, ← c.group_of.ensures) (c.add_group.ensures.has _ (c.groups.invariant.has before has));
    }
