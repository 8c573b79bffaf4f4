use Rattle.std.proofs.Common.{◌≡◌, ◌∙◌, ◌+◌, ap, length, arith, length-drop}
use Rattle.std.proofs.lemmas.List.{length-take}
use Rattle.blake3_hash.specs.Chunk.{value_after}
use Rattle.blake3_hash.specs.Lanes.{whole_chunk}
use Rattle.blake3_hash.proofs.Blocks.{chunk_value-whole, value_after-next}
use Rattle.blake3_hash.proofs.chunk_lanes.lanes4.Goals as goal

pub blocks-2-init : goal.blocks-2-init
unfolding value_after
blocks-2-init c = c.first_values-value.ensures

pub blocks-2-preserved : goal.blocks-2-preserved
blocks-2-preserved c = λ j h.
    rw (value_after-next, ← c.blocks-2.invariant j h)
    (c.compress_lanes-value.ensures j h ∙ rw (c.block_words_at.ensures j h, c.start_flag.ensures))

pub returns : goal.returns
returns c = λ j h.
    let chunk = whole_chunk c.args.chunks.now j in
    let whole : length chunk ≡ 1024 = simp (length-take, length-drop) (omega arith) in
    let done : c.blocks-2.n ≡ 15 = omega arith in
    let value = c.blocks-2.invariant j h ∙ ap (value_after (c.args.first + j) chunk) done in
    c.compress_lanes.ensures j h ∙ rw (c.block_words_at-2.ensures j h) (chunk_value-whole (c.args.first + j) chunk _ whole value)
