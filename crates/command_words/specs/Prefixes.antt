-- Prefixes as words.
use Rattle.std.specs.Prelude.{ℕ, List, [], ◌∷◌, bytes_eq, drop, find}
use Rattle.std.specs.declared.option.Option.{Option}
use Rattle.lists.specs.KeriSpecs.Base64.{digits_in, number_of_text}
use Rattle.cesr_codes.specs.declared.digest.DigestCode.TheVariants.{Blake3, Sha256}
use Rattle.cesr_codes.specs.declared.key.KeyCode.TheVariants.{Fixed, Rotating}
use Rattle.cesr_codes.specs.declared.prefix.Prefix.{Prefix}
use Rattle.cesr_codes.specs.declared.prefix.Prefix.TheVariants.{Basic, Said}
use Rattle.cesr_codes.specs.Spelling.{prefix_text}

-- the raw bytes that the digits behind a word's first character spell
abbrev pub raw_behind : List ℕ → List ℕ
raw_behind word = digits_in 256 32 (number_of_text (drop 1 word))

-- the prefixes of these raw bytes: a key of either code, and a digest of either
abbrev pub prefixes_of : List ℕ → List Prefix
prefixes_of bytes =
    Basic (record { code = Fixed; raw = bytes }) ∷ Basic (record { code = Rotating; raw = bytes })
    ∷ Said (record { code = Blake3; raw = bytes }) ∷ Said (record { code = Sha256; raw = bytes }) ∷ []

-- the prefix that a word spells: of those whose raw bytes its digits are, that whose spelling the whole word is
unfoldable pub prefix_in : List ℕ → Option Prefix
prefix_in word = find (λ prefix. bytes_eq word (prefix_text prefix)) (prefixes_of (raw_behind word))
