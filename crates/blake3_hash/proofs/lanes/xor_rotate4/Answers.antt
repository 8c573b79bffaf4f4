use Rattle.std.proofs.Common.{◌≡◌, [], ◌∷◌, bit_xor}
use Rattle.std.specs.Int.{w32, rotate_right}
use Rattle.blake3_hash.specs.Lanes.{lane_at}
use Rattle.blake3_hash.proofs.FourLanes.{below_four}
use Rattle.blake3_hash.proofs.lanes.xor_rotate4.Goals as goal

pub returns : goal.returns
returns c i j hi hj =
    below_four (λ i. lane_at (c.xor_rotate.result ∷ c.xor_rotate-2.result ∷ c.xor_rotate-3.result ∷ c.xor_rotate-4.result ∷ []) i j ≡ rotate_right w32 (bit_xor (lane_at c.args.a i j) (lane_at c.args.b i j)) c.args.k)
    (c.xor_rotate.ensures j hj) (c.xor_rotate-2.ensures j hj) (c.xor_rotate-3.ensures j hj) (c.xor_rotate-4.ensures j hj) i hi
