use Rattle.std.proofs.Common.{refl}
use Rattle.blake3_hash.specs.Compression.{rounds}
use Rattle.blake3_hash.proofs.lanes.seven_rounds.Goals as goal

pub returns : goal.returns
unfolding rounds
returns c j h =
    rw (
      c.mix_round.ensures j h,
      c.mix_round-v6.ensures j h,
      c.mix_round-v5.ensures j h,
      c.mix_round-v4.ensures j h,
      c.mix_round-v3.ensures j h,
      c.mix_round-v2.ensures j h,
      c.mix_round-v1.ensures j h,
      c.permute-m6.ensures j h,
      c.permute-m5.ensures j h,
      c.permute-m4.ensures j h,
      c.permute-m3.ensures j h,
      c.permute-m2.ensures j h,
      c.permute-m1.ensures j h,
    ) refl
