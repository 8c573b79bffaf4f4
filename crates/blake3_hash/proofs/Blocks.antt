-- The chaining value of a chunk, block by block.
use Rattle.std.proofs.Common.{◌≡◌, ◌∙◌, ap, ℕ, ◌+◌, ◌*◌, ◌-◌, ◌<◌, ◌≤◌, List, length, drop, take, slice_index, bit_or, refl, arith, add-one, length-drop}
use Rattle.std.proofs.lemmas.List.{append-nil, drop-drop, drop-take, get_or-drop, get_or-take, take-take, take_all}
use Rattle.blake3_hash.specs.Compression.{chunk_end, compress}
use Rattle.blake3_hash.specs.Chunk.{block, block_words, blocks_before_last, chunk_value, filled, start_flag, value_after, word_at}
use Rattle.blake3_hash.specs.Lanes.{whole_chunk}

-- one block more
pub value_after-next : (number : ℕ) (chunk : List ℕ) (n : ℕ)
    → value_after number chunk (n + 1) ≡ compress (value_after number chunk n) (block_words (block chunk n)) number 64 (start_flag n)
unfolding value_after
value_after-next number chunk n = rw add-one refl

-- the last block
pub chunk_value-last : (number : ℕ) (chunk : List ℕ) (flags n : ℕ) (value last : List ℕ)
    → n ≡ blocks_before_last chunk → value ≡ value_after number chunk n → last ≡ drop (64 * n) chunk
    → compress value (block_words (filled last)) number (length last) (bit_or (bit_or (start_flag n) chunk_end) flags) ≡ chunk_value number chunk flags
unfolding chunk_value
chunk_value-last number chunk flags n value last count before is = rw (before, is, count) refl

-- a byte of block number n of chunk number j
block-byte : (bytes : List ℕ) (j n i m : ℕ) → i < 64 → n < 16 → m ≡ 1024 * j + (64 * n + i)
    → slice_index (block (whole_chunk bytes j) n) i ≡ slice_index bytes m
block-byte bytes j n i m low inside is =
    let near : 64 * n + i < 1024 = omega arith in
    rw (is, get_or-take, get_or-drop, get_or-take, get_or-drop) refl

-- a word of it
pub word_at-block : (bytes : List ℕ) (j n i m : ℕ) → i + 4 ≤ 64 → n < 16 → m ≡ 1024 * j + (64 * n + i)
    → word_at bytes m ≡ word_at (block (whole_chunk bytes j) n) i
word_at-block bytes j n i m low inside is =
    rw (
      block-byte bytes j n i m (omega arith) inside is,
      block-byte bytes j n (i + 1) (m + 1) (omega arith) inside (omega arith),
      block-byte bytes j n (i + 2) (m + 2) (omega arith) inside (omega arith),
      block-byte bytes j n (i + 3) (m + 3) (omega arith) inside (omega arith),
    ) refl

-- the last block of a whole chunk
pub chunk_value-whole : (number : ℕ) (chunk value : List ℕ) → length chunk ≡ 1024 → value ≡ value_after number chunk 15
    → compress value (block_words (block chunk 15)) number 64 chunk_end ≡ chunk_value number chunk 0
chunk_value-whole number chunk value whole before =
    let last : List ℕ = drop 960 chunk in
    let long : length last ≡ 64 = omega (arith, length-drop 960 chunk) in
    let all : take 64 last ≡ last = take_all 64 last (omega arith) in
    let count : 15 ≡ blocks_before_last chunk = omega arith in
    let made = chunk_value-last number chunk 0 15 value last count before refl in
    rw all (rw (long, append-nil last) at made)

-- the chunks of the first w bytes, and of the second half of eight
pub whole_chunk-front : (w : ℕ) (bytes : List ℕ) (j : ℕ) → 1024 * (j + 1) ≤ w → whole_chunk (take w bytes) j ≡ whole_chunk bytes j
whole_chunk-front w bytes j low =
    let rest : w ≡ 1024 * j + (w - 1024 * j) = omega arith in
    let room : 1024 ≤ w - 1024 * j = omega arith in
    ap (λ (n : ℕ). whole_chunk (take n bytes) j) rest
    ∙ rw (drop-take, take-take 1024 (w - 1024 * j) (drop (1024 * j) bytes) room) refl

pub whole_chunk-back : (bytes rest : List ℕ) (j : ℕ) → rest ≡ drop 4096 bytes → whole_chunk rest j ≡ whole_chunk bytes (4 + j)
whole_chunk-back bytes rest j is =
    let at : 4096 + 1024 * j ≡ 1024 * (4 + j) = omega arith in
    rw (is, drop-drop, at) refl
