-- What stands while the items of a mixed stream are written.
use Rattle.std.specs.Prelude.{◌≡◌, ℕ, ◌+◌, Bool, true, List, flat_map, All}
use Rattle.std.specs.declared.option.Option.{Option}
use Rattle.std.specs.declared.option.Option.TheVariants.{None, Some}
use Rattle.cesr_stream.specs.declared.bad.Bad.{Bad}
use Rattle.cesr_stream.specs.Items.{Placed}
use Rattle.cesr_stream.specs.Parts.{refused, unfinished}
use Rattle.cesr_stream.specs.Reading.{Reading, HasFed}
use Rattle.cesr_stream.specs.Written.{IsWritable}
use Rattle.cesr_binary.specs.declared.domain.Domain.{Domain}
use Rattle.cesr_binary.specs.Mixed.{StandMixed}
use Rattle.cesr_binary.specs.MixedAnswers.{judged}
use Rattle.cesr_binary.specs.Wire.{item_in}
use Rattle.keri_roles.specs.declared.item_conversion.converter.Converter.{Converter}
use Rattle.keri_outside.specs.Shown.{SinkShown, sink_shown}
use Rattle.run_status.specs.RunStatus.RunEnds.{Puts}

-- the text of the items in a domain, one after the other
abbrev pub text_in : Domain → List Placed → List ℕ
text_in domain items = flat_map (λ p. item_in domain p.item) items

-- the reader has judged all that was fed, and no item is whole in the rest
pub record IsIdle (reading : Reading) : Type 0 where
  pub not_bad : reading.bad ≡ None
  pub drained : reading.drained ≡ true
  pub unfinished_item : judged reading ≡ unfinished

-- a rule refuses the rest, at its place in the stream
pub record IsRefused (reading : Reading) (bad : Bad) : Type 0 where
  pub within : ℕ
  pub is_refused : judged reading ≡ refused within bad.reason
  pub at : bad.place ≡ reading.place + within

-- no item is whole in the rest, or a rule refuses it
abbrev pub StopsWith : Option Bad → Reading → Type 0
StopsWith None reading = IsIdle reading
StopsWith (Some bad) reading = IsRefused reading bad

-- a reader, the domain in which its items are written, whether the sink failed, and what the sink shows
pub record Progress : Type 0 where
  pub reader : Reading
  pub domain : Domain
  pub sink_failed : Bool
  pub sink : SinkShown

abbrev pub progress : Reading → Domain → Bool → SinkShown → Progress
progress reader domain sink_failed sink = record { reader = reader; domain = domain; sink_failed = sink_failed; sink = sink }

abbrev pub progress_of : {K : Type 0} → (K → Option (List ℕ)) → (K → ℕ) → Converter → K → Progress
progress_of written faults converter sink = progress converter.reader converter.domain converter.sink_failed (sink_shown written faults sink)

-- of these bytes, which were fed, the items from the front were put since the sink showed this first
pub record HasPut (first : SinkShown) (fed : List ℕ) (now : Progress) : Type 0 where
  pub has_fed : HasFed now.reader fed
  pub items : List Placed
  pub stand : StandMixed now.reader.limit fed items now.reader.begun now.reader.place
  pub writable : All (λ p. IsWritable p.item) items
  pub puts : Puts (text_in now.domain items) now.sink_failed first now.sink

-- Whatever was fed, the items from its front were put, where it was so before; the limit and the domain are the same.
pub record GoesOn (old new : Progress) : Type 0 where
  pub has_put : (first : SinkShown) (fed : List ℕ) → HasPut first fed old → HasPut first fed new
  pub limit : new.reader.limit ≡ old.reader.limit
  pub domain : new.domain ≡ old.domain
