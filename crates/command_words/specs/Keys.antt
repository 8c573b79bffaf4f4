-- Keys as words.
use Rattle.std.specs.Prelude.{ℕ, List, drop, bytes_eq, if◌then◌else◌}
use Rattle.std.specs.declared.option.Option.{Option}
use Rattle.std.specs.declared.option.Option.TheVariants.{None, Some}
use Rattle.lists.specs.KeriSpecs.Base64.{digits_in, number_of_text}
use Rattle.cesr_codes.specs.declared.key.Key.{Key}
use Rattle.cesr_codes.specs.declared.key.KeyCode.TheVariants.{Fixed}
use Rattle.cesr_codes.specs.Spelling.{key_text}

-- the key that can't be rotated whose raw bytes the digits behind a word's first character spell
abbrev pub key_behind : List ℕ → Key
key_behind word = record { code = Fixed; raw = digits_in 256 32 (number_of_text (drop 1 word)) }

-- the key that can't be rotated that a word spells: that one, where the word is its spelling
unfoldable pub fixed_key_in : List ℕ → Option Key
fixed_key_in word = if bytes_eq word (key_text (key_behind word)) then Some (key_behind word) else None
