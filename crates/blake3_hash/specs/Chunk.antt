-- The chaining value of a chunk. Section numbers are those of the BLAKE3 specification.
use Rattle.std.specs.Prelude.{ℕ, zero, suc, ◌+◌, ◌-◌, ◌*◌, ◌/◌, List, [], ◌∷◌, ◌++◌, length, take, drop, replicate, bit_or, slice_index, if◌then◌else◌, ◌==◌}
use Rattle.std.specs.Int.{w32, from_le_bytes}
use Rattle.blake3_hash.specs.Compression.{iv, compress, chunk_start, chunk_end}

-- the word at byte i, the lowest byte first (2)
abbrev pub word_at : List ℕ → ℕ → ℕ
word_at b i = from_le_bytes w32
    (slice_index b i ∷ slice_index b (i + 1) ∷ slice_index b (i + 2) ∷ slice_index b (i + 3) ∷ [])

-- the 16 words of a block of 64 bytes (2.4)
unfoldable pub block_words : List ℕ → List ℕ
block_words b =
    word_at b 0 ∷ word_at b 4 ∷ word_at b 8 ∷ word_at b 12
    ∷ word_at b 16 ∷ word_at b 20 ∷ word_at b 24 ∷ word_at b 28
    ∷ word_at b 32 ∷ word_at b 36 ∷ word_at b 40 ∷ word_at b 44
    ∷ word_at b 48 ∷ word_at b 52 ∷ word_at b 56 ∷ word_at b 60 ∷ []

-- a block filled up with zeros to 64 bytes (2.4)
abbrev pub filled : List ℕ → List ℕ
filled b = b ++ replicate (64 - length b) 0

-- the flag of a chunk's block number n: CHUNK_START on the first (2.4)
abbrev pub start_flag : ℕ → ℕ
start_flag n = if n == 0 then chunk_start else 0

-- block number n of a chunk (2.4)
abbrev pub block : List ℕ → ℕ → List ℕ
block chunk n = take 64 (drop (64 * n) chunk)

-- the chaining value after the first n blocks of chunk number `number`, each of them whole and none
-- of them its last (2.4)
unfoldable pub value_after : ℕ → List ℕ → ℕ → List ℕ
value_after number chunk zero = iv
value_after number chunk (suc n) =
    compress (value_after number chunk n) (block_words (block chunk n)) number 64 (start_flag n)

-- how many blocks a chunk has before its last: none, where it is empty (2.4)
abbrev pub blocks_before_last : List ℕ → ℕ
blocks_before_last chunk = (length chunk - 1) / 64

-- the chaining value of chunk number `number`: its last block is filled up with zeros, compressed
-- with its true length and flagged CHUNK_END, and `flags` besides (2.4)
unfoldable pub chunk_value : ℕ → List ℕ → ℕ → List ℕ
chunk_value number chunk flags =
    let n = blocks_before_last chunk in
    let last = drop (64 * n) chunk in
    let last_flags = bit_or (bit_or (start_flag n) chunk_end) flags in
    compress (value_after number chunk n) (block_words (filled last)) number (length last) last_flags
