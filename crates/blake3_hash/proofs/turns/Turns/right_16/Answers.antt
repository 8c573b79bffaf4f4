use Rattle.std.proofs.Common.{◌≡◌, ℕ, [], ◌∷◌}
use Rattle.std.specs.Int.{w32, rotate_right}
use Rattle.blake3_hash.specs.Lanes.{lane_at}
use Rattle.blake3_hash.proofs.FourLanes.{below_four}
use Rattle.blake3_hash.proofs.turns.Turns.right_16.Goals as goal

pub returns : goal.returns
returns c i j hi hj =
    below_four (λ (i : ℕ). lane_at (c.turned_16.result ∷ c.turned_16-2.result ∷ c.turned_16-3.result ∷ c.turned_16-4.result ∷ []) i j ≡ rotate_right w32 (lane_at c.args.words i j) 16)
    (c.turned_16.ensures j hj) (c.turned_16-2.ensures j hj) (c.turned_16-3.ensures j hj) (c.turned_16-4.ensures j hj) i hi
