-- What the link to a helper shows.
use Rattle.std.specs.Prelude.{◌≡◌, ℕ, List}
use Rattle.std.specs.declared.option.Option.{Option}
use Rattle.keri_outside.specs.Shown.{SourceShown, SinkShown, source_shown, sink_shown}
use Rattle.lists.specs.KeriSpecs.Shown.{before}
use Rattle.verifier_link.specs.declared.link.Link.{Link}

-- what a link shows: its source, its sink, and how often it has failed itself
pub record HelperShown : Type 0 where
  pub source : SourceShown
  pub sink : SinkShown
  pub faults : ℕ

-- the source gave these bytes, where that is shown, and didn't fail
pub record Gave (old new : SourceShown) (bytes : List ℕ) : Type 0 where
  pub left : old.left ≡ before bytes new.left
  pub faults : new.faults ≡ old.faults

-- how often a link has failed
abbrev pub link_faults : {S K : Type 0} → Link S K → ℕ
link_faults link = link.faults

module _ {S K : Type 0} (left : S → Option (List ℕ)) (read_faults : S → ℕ) (written : K → Option (List ℕ)) (write_faults : K → ℕ) where
  abbrev pub link_shown : Link S K → HelperShown
  link_shown link = record { source = source_shown left read_faults link.source; sink = sink_shown written write_faults link.sink; faults = link.faults }
