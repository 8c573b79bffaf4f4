-- Four blocks side by side: a word is a vector of four lanes, one for each block.
use Rattle.std.specs.Prelude.{ℕ, ◌*◌, List, [], ◌∷◌, take, drop, slice_index, slice_index_or}

-- word k in lane j
abbrev pub lane_at : List (List ℕ) → ℕ → ℕ → ℕ
lane_at x k j = slice_index (slice_index_or x k []) j

-- the chaining value in lane j
abbrev pub eight_words : ℕ → List (List ℕ) → List ℕ
eight_words j x =
    lane_at x 0 j ∷ lane_at x 1 j ∷ lane_at x 2 j ∷ lane_at x 3 j
    ∷ lane_at x 4 j ∷ lane_at x 5 j ∷ lane_at x 6 j ∷ lane_at x 7 j ∷ []

-- the chaining values in the lanes of two
abbrev pub eight_values : List (List ℕ) → List (List ℕ) → List (List ℕ)
eight_values x y =
    eight_words 0 x ∷ eight_words 1 x ∷ eight_words 2 x ∷ eight_words 3 x
    ∷ eight_words 0 y ∷ eight_words 1 y ∷ eight_words 2 y ∷ eight_words 3 y ∷ []

-- the state, or the words of the message, in lane j
abbrev pub sixteen_words : ℕ → List (List ℕ) → List ℕ
sixteen_words j x =
    lane_at x 0 j ∷ lane_at x 1 j ∷ lane_at x 2 j ∷ lane_at x 3 j
    ∷ lane_at x 4 j ∷ lane_at x 5 j ∷ lane_at x 6 j ∷ lane_at x 7 j
    ∷ lane_at x 8 j ∷ lane_at x 9 j ∷ lane_at x 10 j ∷ lane_at x 11 j
    ∷ lane_at x 12 j ∷ lane_at x 13 j ∷ lane_at x 14 j ∷ lane_at x 15 j ∷ []

-- chunk number j of bytes that begin with a chunk, which is whole
abbrev pub whole_chunk : List ℕ → ℕ → List ℕ
whole_chunk bytes j = take 1024 (drop (1024 * j) bytes)

-- from which place each byte of four words of four bytes comes, as each word is rotated right by 16
-- bits: by two of its bytes
abbrev pub right_16 : List ℕ
right_16 = 2 ∷ 3 ∷ 0 ∷ 1 ∷ 6 ∷ 7 ∷ 4 ∷ 5 ∷ 10 ∷ 11 ∷ 8 ∷ 9 ∷ 14 ∷ 15 ∷ 12 ∷ 13 ∷ []

-- as it is by 8 bits: by one of its bytes
abbrev pub right_8 : List ℕ
right_8 = 1 ∷ 2 ∷ 3 ∷ 0 ∷ 5 ∷ 6 ∷ 7 ∷ 4 ∷ 9 ∷ 10 ∷ 11 ∷ 8 ∷ 13 ∷ 14 ∷ 15 ∷ 12 ∷ []
