-- What a source and a sink show, as values that clauses compare.
use Rattle.std.specs.Prelude.{ℕ, List}
use Rattle.std.specs.declared.option.Option.{Option}

-- the bytes that a source has left, where that is shown, and how often it has failed
pub record SourceShown : Type 0 where
  pub left : Option (List ℕ)
  pub faults : ℕ

-- the bytes that were written to a sink, where that is shown, and how often it has failed
pub record SinkShown : Type 0 where
  pub written : Option (List ℕ)
  pub faults : ℕ

abbrev pub source_of : Option (List ℕ) → ℕ → SourceShown
source_of left faults = record { left = left; faults = faults }

abbrev pub source_shown : {S : Type 0} → (S → Option (List ℕ)) → (S → ℕ) → S → SourceShown
source_shown left faults source = source_of (left source) (faults source)

abbrev pub sink_shown : {K : Type 0} → (K → Option (List ℕ)) → (K → ℕ) → K → SinkShown
sink_shown written faults sink = record { written = written sink; faults = faults sink }
