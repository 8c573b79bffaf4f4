use Rattle.std.proofs.Common.{◌≡◌, ◌<◌, ℕ, [], ◌∷◌, lit<, refl}
use Rattle.blake3_hash.specs.Compression.{columns, g, mixed}
use Rattle.blake3_hash.specs.Lanes.{lane_at}
use Rattle.blake3_hash.proofs.FourLanes.{four}
use Rattle.blake3_hash.proofs.lanes.mix_columns.Goals as goal

-- column i, in lane j
column : (c : goal.After-result-16-1) (i j : ℕ) → i < 4 → j < 4
    → lane_at c.add4-a2.result i j ∷ lane_at c.xor_rotate4-b2.result i j ∷ lane_at c.add4-c2.result i j ∷ lane_at c.right_8-d2.result i j ∷ []
    ≡ mixed (lane_at (four c.args.v 0 1 2 3) i j) (lane_at (four c.args.v 4 5 6 7) i j) (lane_at (four c.args.v 8 9 10 11) i j)
    (lane_at (four c.args.v 12 13 14 15) i j) (lane_at (four c.args.m 0 2 4 6) i j) (lane_at (four c.args.m 1 3 5 7) i j)
unfolding mixed
column c i j low h =
    rw (
      c.xor_rotate4-b2.ensures i j low h,
      c.add4-c2.ensures i j low h,
      c.right_8-d2.ensures i j low h,
      c.xor4-2.ensures i j low h,
      c.add4-a2.ensures i j low h,
      c.add4-ab2.ensures i j low h,
      c.xor_rotate4-b1.ensures i j low h,
      c.add4-c1.ensures i j low h,
      c.right_16-d1.ensures i j low h,
      c.xor4.ensures i j low h,
      c.add4-a1.ensures i j low h,
      c.add4-ab1.ensures i j low h,
    ) refl

pub returns : goal.returns
unfolding columns g
returns c j h =
    rw (
      ← column c 0 j (lit< tt) h,
      ← column c 1 j (lit< tt) h,
      ← column c 2 j (lit< tt) h,
      ← column c 3 j (lit< tt) h,
    )
