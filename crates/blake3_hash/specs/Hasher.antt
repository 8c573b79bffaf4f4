-- What a hasher holds of the bytes that were given to it.
use Rattle.std.specs.Prelude.{◌≡◌, ℕ, ◌+◌, ◌*◌, ◌<◌, List, length, take, drop}
use Rattle.blake3_hash.specs.Stack.{HasSubtrees}
use Rattle.blake3_hash.specs.declared.hasher.Hasher.{Hasher}

-- how many bytes the hasher was given
abbrev pub total : Hasher → ℕ
total s = 1024 * s.stack.count + s.used

-- the hasher has the bytes: the subtrees of the closed chunks, and the bytes after those
unfoldable pub HasBytes : Hasher → List ℕ → Type 0
HasBytes s bytes = (length bytes ≡ total s) × HasSubtrees s.stack.values s.stack.count bytes
    × (take s.used s.chunk ≡ drop (1024 * s.stack.count) bytes)

-- the hasher holds the bytes: it has them, and the last chunk is open
unfoldable pub Holds : Hasher → List ℕ → Type 0
Holds s bytes = HasBytes s bytes × (0 < s.stack.count → 0 < s.used)
