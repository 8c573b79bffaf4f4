-- What the file of a shelf holds: a mark, records, and behind them a byte that isn't 1. docs/FORMATS.md, "Shelf file".
use Rattle.std.specs.Prelude.{◌≡◌, ◌≢◌, ◌⊎◌, ◌<◌, ◌≤◌, ◌+◌, ◌^◌, ℕ, List, [], ◌∷◌, ◌++◌, length, take, slice_get, IsSomeAnd}
use Rattle.std.specs.List.{All}
use Rattle.std.specs.Int.{w32, to_be_bytes}
use Rattle.shelf_log.specs.declared.shelf_log.version.Version.{Version}
use Rattle.shelf_log.specs.declared.shelf_log.version.Version.TheVariants.{One, Two}

-- `KSHELF01` and `KSHELF02`
abbrev pub mark : Version → List ℕ
mark One = 75 ∷ 83 ∷ 72 ∷ 69 ∷ 76 ∷ 70 ∷ 48 ∷ 49 ∷ []
mark Two = 75 ∷ 83 ∷ 72 ∷ 69 ∷ 76 ∷ 70 ∷ 48 ∷ 50 ∷ []

-- the greatest length of a payload
abbrev pub greatest : Version → ℕ
greatest One = 65535
greatest Two = 524288

abbrev pub IsInRange : Version → ℕ → Type 0
IsInRange version n = (1 ≤ n) × (n ≤ greatest version)

-- the payload can stand in a record
abbrev pub IsSized : Version → List ℕ → Type 0
IsSized version payload = IsInRange version (length payload)

-- an open gate, the payload's length as 4 bytes with the high one first, and the payload
abbrev pub record_bytes : List ℕ → List ℕ
record_bytes payload = 1 ∷ to_be_bytes w32 (length payload) ++ payload

abbrev pub records : List (List ℕ) → List ℕ
records [] = []
records (payload ∷ list) = record_bytes payload ++ records list

-- all that stands before the closed gate
abbrev pub shelf_front : Version → List (List ℕ) → List ℕ
shelf_front version list = mark version ++ records list

-- bytes of a file from its mark to its closed gate
abbrev pub shelf_size : Version → List (List ℕ) → ℕ
shelf_size version list = length (shelf_front version list) + 1

-- The file stands for the list: it begins with the mark and a record for each payload, and then comes a byte that isn't 1.
-- What follows that counts for nothing.
abbrev pub Holds : Version → List ℕ → List (List ℕ) → Type 0
Holds version file list = (take (length (shelf_front version list)) file ≡ shelf_front version list)
    × IsSomeAnd (slice_get file (length (shelf_front version list))) (λ gate. gate ≢ 1)
    × All (IsSized version) list

-- the file stands for no list
abbrev pub IsNoShelf : Version → List ℕ → Type 0
IsNoShelf version file = (list : List (List ℕ)) → Holds version file list → ⊥

-- The bytes from a gate's offset on end too soon, which shows so far behind that offset: at the gate, at the length behind
-- an open gate, or at the payload behind its length.
abbrev pub EndsIn : Version → List ℕ → ℕ → Type 0
EndsIn version bytes behind = ((bytes ≡ []) × (behind ≡ 0))
    ⊎ ((rest : List ℕ) × (bytes ≡ 1 ∷ rest) × (length rest < 4) × (behind ≡ 1))
    ⊎ ((n : ℕ) × (rest : List ℕ) × (bytes ≡ 1 ∷ to_be_bytes w32 n ++ rest) × IsInRange version n × (length rest < n) × (behind ≡ 5))

-- the length behind an open gate is 0, or over the greatest
abbrev pub IsOutOfRange : Version → List ℕ → ℕ → Type 0
IsOutOfRange version bytes behind = (n : ℕ) × (rest : List ℕ) × (bytes ≡ 1 ∷ to_be_bytes w32 n ++ rest) × (n < 2 ^ 32) × (IsInRange version n → ⊥) × (behind ≡ 1)

-- The file isn't a shelf, which shows first at this offset: 0 where it doesn't begin with the mark, and else where, behind
-- the mark and whole records, the file ends too soon or a length is out of range.
abbrev pub FailsAt : Version → List ℕ → ℕ → Type 0
FailsAt version file offset = ((take 8 file ≢ mark version) × (offset ≡ 0))
    ⊎ ((list : List (List ℕ)) × (rest : List ℕ) × (behind : ℕ) × (file ≡ shelf_front version list ++ rest) × All (IsSized version) list
    × (EndsIn version rest behind ⊎ IsOutOfRange version rest behind) × (offset ≡ length (shelf_front version list) + behind))
