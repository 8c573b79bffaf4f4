use Rattle.std.proofs.Common.{◌∙◌, ap, List, ℕ}
use Rattle.blake3_hash.specs.Compression.{columns, diagonals}
use Rattle.blake3_hash.specs.Lanes.{sixteen_words}
use Rattle.blake3_hash.proofs.lanes.mix_round.Goals as goal

pub returns : goal.returns
unfolding columns
returns c j h =
    c.mix_diagonals.ensures j h ∙ ap (λ (w : List ℕ). diagonals w (sixteen_words j c.args.m.now)) (c.mix_columns.ensures j h)
