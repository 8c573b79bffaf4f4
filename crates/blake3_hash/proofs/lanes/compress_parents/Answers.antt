use Rattle.std.proofs.Common.{◌∙◌, ap, List, ℕ}
use Rattle.blake3_hash.specs.Compression.{compress, halves_joined, rounds}
use Rattle.blake3_hash.specs.Lanes.{sixteen_words}
use Rattle.blake3_hash.proofs.lanes.compress_parents.Goals as goal

pub returns : goal.returns
unfolding compress
returns c j h =
    c.joined.ensures j h
    ∙ ap halves_joined (c.seven_rounds.ensures j h ∙ ap (λ (v : List ℕ). rounds 7 v (sixteen_words j c.args.words.now)) (c.parent_states.ensures j h))
