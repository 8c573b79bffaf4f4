use Rattle.std.proofs.Common.{ap, [], ◌∷◌, List, ℕ, slice_index}
use Rattle.blake3_hash.specs.Compression.{columns, diagonals, g}
use Rattle.blake3_hash.proofs.lanes.mix_diagonals.Goals as goal

-- the rows of a state, turned right by their numbers
abbrev turned_right : List ℕ → List ℕ
turned_right w =
    slice_index w 0 ∷ slice_index w 1 ∷ slice_index w 2 ∷ slice_index w 3
    ∷ slice_index w 7 ∷ slice_index w 4 ∷ slice_index w 5 ∷ slice_index w 6
    ∷ slice_index w 10 ∷ slice_index w 11 ∷ slice_index w 8 ∷ slice_index w 9
    ∷ slice_index w 13 ∷ slice_index w 14 ∷ slice_index w 15 ∷ slice_index w 12 ∷ []

pub returns : goal.returns
unfolding columns diagonals g
returns c j h = ap turned_right (c.mix_columns-v.ensures j h)
