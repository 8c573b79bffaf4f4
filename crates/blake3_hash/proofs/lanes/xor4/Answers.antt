use Rattle.std.proofs.Common.{◌≡◌, [], ◌∷◌, bit_xor}
use Rattle.blake3_hash.specs.Lanes.{lane_at}
use Rattle.blake3_hash.proofs.FourLanes.{below_four}
use Rattle.blake3_hash.proofs.lanes.xor4.Goals as goal

pub returns : goal.returns
returns c i j hi hj =
    below_four (λ i. lane_at (c.xor.result ∷ c.xor-2.result ∷ c.xor-3.result ∷ c.xor-4.result ∷ []) i j ≡ bit_xor (lane_at c.args.a i j) (lane_at c.args.b i j))
    (c.xor.ensures j hj) (c.xor-2.ensures j hj) (c.xor-3.ensures j hj) (c.xor-4.ensures j hj) i hi
