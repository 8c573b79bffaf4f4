-- What a conversion reads and writes.
use Rattle.std.specs.Prelude.{◌≡◌, ◌≢◌, ℕ, ◌≤◌, Bool, List, length, map, take, All}
use Rattle.std.specs.declared.option.Option.{Option}
use Rattle.keri_outside.specs.declared.limits.Limits.{Limits}
use Rattle.cesr_stream.specs.Items.{Placed, Stand}
use Rattle.cesr_stream.specs.Written.{IsItem}
use Rattle.cesr_binary.specs.declared.domain.Domain.{Domain}
use Rattle.cesr_binary.specs.declared.domain.Domain.TheVariants.{Text}
use Rattle.cesr_binary.specs.Wire.{ReadsBack}
use Rattle.cesr_binary.specs.Mixed.{StandMixed, MixedItems}
use Rattle.run_status.specs.declared.run_status.close.Close.{Close}
use Rattle.run_status.specs.declared.run_status.close.Close.TheVariants.{OutOfMemory}
use Rattle.keri_outside.specs.Shown.{SourceShown, SinkShown}
use Rattle.run_status.specs.RunStatus.RunEnds.{Puts}
use Rattle.keri_roles.specs.declared.item_conversion.conversion.Conversion.{Conversion}
use Rattle.keri_roles.specs.ItemConversion.Closes.{Bounds, Taken, ClosesBy, rest_judged}
use Rattle.keri_roles.specs.ItemConversion.Progress.{text_in}

-- what a source and a sink show
pub record EndsShown : Type 0 where
  pub source : SourceShown
  pub sink : SinkShown

abbrev pub ends_shown : {S K : Type 0} → (S → Option (List ℕ)) → (S → ℕ) → (K → Option (List ℕ)) → (K → ℕ) → S → K → EndsShown
ends_shown left source_faults written sink_faults source sink = record {
  source = record { left = left source; faults = source_faults source };
  sink = record { written = written sink; faults = sink_faults sink };
}

abbrev pub bounds : ℕ → ℕ → Bounds
bounds body stream = record { body = body; stream = stream }

abbrev pub conversion : Close → Bool → Conversion
conversion close sink_failed = record { close = close; sink_failed = sink_failed }

-- These items stand from the front of the bytes that were read, at most as many as may be, and reading closed by its cause.
-- Unless there was no memory they are all the items from the front. Their text in the domain was put, or a front of it where
-- the sink failed. That text, read again, has these items and no others, where all raw bytes are bytes; and where the items
-- stand in text, the text of such items, wherever they were read, is what was read first. So a good stream of text is the same
-- bytes when it was turned to binary and back.
pub record ConvertsWithin (bounds : Bounds) (domain : Domain) (old new : EndsShown) (conversion : Conversion) : Type 0 where
  pub taken : Taken
  pub few : length taken.bytes ≤ bounds.stream
  pub stand : StandMixed bounds.body taken.bytes taken.items taken.begun taken.place
  pub closes : ClosesBy bounds old.source new.source taken conversion.close
  pub all : conversion.close ≢ OutOfMemory → MixedItems bounds.body taken.bytes taken.items (rest_judged bounds.body taken)
  pub puts : Puts (text_in domain taken.items) conversion.sink_failed old.sink new.sink
  pub again : All (λ p. IsItem p.item) taken.items → ReadsBack bounds.body (text_in domain taken.items) (map (λ p. p.item) taken.items)
  pub back : Stand bounds.body taken.bytes taken.items taken.begun taken.place → (others : List Placed)
      → map (λ p. p.item) others ≡ map (λ p. p.item) taken.items → text_in Text others ≡ take taken.place taken.bytes

abbrev pub Converts : Limits → Domain → EndsShown → EndsShown → Conversion → Type 0
Converts limits domain old new conversion = ConvertsWithin (bounds limits.body limits.stream_bytes) domain old new conversion
