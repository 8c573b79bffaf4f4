use Rattle.std.proofs.Common.{◌≡◌, ◌∙◌, ◌+◌, ◌-◌, ◌*◌, ◌/◌, arith, ap, refl}
use Rattle.std.proofs.lemmas.List.{take_rest}
use Rattle.blake3_hash.specs.Chunk.{value_after}
use Rattle.blake3_hash.proofs.Blocks.{chunk_value-last, value_after-next}
use Rattle.blake3_hash.proofs.chunk.chunk_value.Goals as goal

pub blocks-2-init : goal.blocks-2-init
unfolding value_after
blocks-2-init c = refl

pub blocks-2-preserved : goal.blocks-2-preserved
blocks-2-preserved c =
    let n = c.blocks-2.n in
    let width : 64 * n + 64 - 64 * n ≡ 64 = omega arith in
    rw (value_after-next, ← c.blocks-2.invariant)
    (c.compress-value.ensures ∙ rw (c.block_words.ensures, c.start_flag.ensures, width) refl)

pub returns : goal.returns
returns c =
    let n = c.saturating_sub-before_last.result / 64 in
    let done : c.blocks-2.n ≡ n = omega arith in
    let value = c.blocks-2.invariant ∙ ap (value_after c.args.number c.args.chunk.now) done in
    c.compress.ensures ∙ rw (c.block_words-2.ensures, c.filled.ensures, c.start_flag-2.ensures)
    (chunk_value-last c.args.number c.args.chunk.now c.args.flags n _ _ (ap (λ x. x / 64) c.saturating_sub-before_last.ensures) value (take_rest c.args.chunk.now (64 * n)))
