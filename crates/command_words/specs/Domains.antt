-- Domains as words.
use Rattle.std.specs.Prelude.{ℕ, List, codes, if◌then◌else◌}
use Rattle.std.specs.Str.{bytes_eq}
use Rattle.std.specs.declared.option.Option.{Option}
use Rattle.std.specs.declared.option.Option.TheVariants.{None, Some}
use Rattle.cesr_binary.specs.declared.domain.Domain.{Domain}
use Rattle.cesr_binary.specs.declared.domain.Domain.TheVariants.{Binary, Text}

-- the domain that a word names
abbrev pub domain_in : List ℕ → Option Domain
domain_in word =
    if bytes_eq word (codes "binary") then Some Binary
    else if bytes_eq word (codes "text") then Some Text
    else None
