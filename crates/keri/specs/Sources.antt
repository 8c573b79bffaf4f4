-- Which source is made of a name.
use Rattle.std.specs.Prelude.{◌≡◌, ℕ, Bool, true, false, List, codes}
use Rattle.std.specs.Str.{bytes_eq}
use Rattle.keri.specs.Opened.{IsOpenedAt}
use Rattle.keri.specs.declared.opened.Access.TheVariants.{Read}
use Rattle.keri.specs.declared.real_source.Origin.{Origin}
use Rattle.keri.specs.declared.real_source.Origin.TheVariants.{File, Input, Child, Link}
use Rattle.edges.specs.Over.{read_by}
use Rattle.edges.specs.declared.source_over.SourceOver.{SourceOver}

-- what a source reads
abbrev pub source_origin : SourceOver Origin → Origin
source_origin source = read_by source

-- `-` is the name of standard input, and each other one that of a file
abbrev pub is_input : List ℕ → Bool
is_input name = bytes_eq name (codes "-")

-- what is read is standard input, or the file whose path is this name
abbrev pub IsOriginOf : List ℕ → Origin → Type 0
IsOriginOf name (File file) = (is_input name ≡ false) × IsOpenedAt name Read file
IsOriginOf name (Input input) = is_input name ≡ true
IsOriginOf name (Child output) = ⊥
IsOriginOf name (Link link) = ⊥

-- the source is the one of this name
abbrev pub IsSourceOf : List ℕ → SourceOver Origin → Type 0
IsSourceOf name source = IsOriginOf name (source_origin source)
