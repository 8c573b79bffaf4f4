use Rattle.std.proofs.Common.{◌≡◌, [], ◌∷◌}
use Rattle.blake3_hash.specs.Compression.{add32}
use Rattle.blake3_hash.specs.Lanes.{lane_at}
use Rattle.blake3_hash.proofs.FourLanes.{below_four}
use Rattle.blake3_hash.proofs.lanes.add4.Goals as goal

pub returns : goal.returns
returns c i j hi hj =
    below_four (λ i. lane_at (c.add.result ∷ c.add-2.result ∷ c.add-3.result ∷ c.add-4.result ∷ []) i j ≡ add32 (lane_at c.args.a i j) (lane_at c.args.b i j))
    (c.add.ensures j hj) (c.add-2.ensures j hj) (c.add-3.ensures j hj) (c.add-4.ensures j hj) i hi
