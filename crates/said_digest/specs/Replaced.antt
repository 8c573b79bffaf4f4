-- Bytes whose digests are replaced by placeholders (KERI: self-addressing identifiers).
use Rattle.std.specs.Prelude.{ℕ, ◌+◌, ◌≤◌, List, [], ◌∷◌, ◌++◌, length, take, drop, replicate, All}

-- the character `#`, as often as a digest has characters
unfoldable pub placeholder : List ℕ
placeholder = replicate 44 35

-- the bytes with the placeholder at one place
unfoldable pub with_placeholder : ℕ → List ℕ → List ℕ
with_placeholder place bytes = take place bytes ++ (placeholder ++ drop (place + 44) bytes)

-- the bytes with the placeholder at each place
unfoldable pub replaced : List ℕ → List ℕ → List ℕ
replaced bytes [] = bytes
replaced bytes (place ∷ places) = with_placeholder place (replaced bytes places)

-- at each place stand as many bytes as a digest has characters
abbrev pub LieIn : List ℕ → List ℕ → Type 0
LieIn bytes places = All (λ place. place + 44 ≤ length bytes) places
