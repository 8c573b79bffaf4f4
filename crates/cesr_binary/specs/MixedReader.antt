-- What the parts of a reader of a mixed stream stand for.
use Rattle.std.specs.Prelude.{◌≡◌, ◌+◌, ◌^◌, ◌<◌, ◌≤◌, true, length}
use Rattle.std.specs.declared.option.Option.TheVariants.{None}
use Rattle.cesr_stream.specs.Parts.{unfinished}
use Rattle.cesr_stream.specs.Reading.{Reading}
use Rattle.cesr_binary.specs.declared.mixed_reader.MixedReader.TheInside.{Inside}
use Rattle.cesr_binary.specs.GivenBytes.{IsGiven}
use Rattle.cesr_binary.specs.Mixed.{mixed_front}

abbrev pub reading_of : Inside → Reading
reading_of r = record { limit = r.limit; place = r.place; rest = r.bytes.items; begun = r.begun; bad = r.bad; drained = r.drained }

-- A body has at most 65,535 bytes, and a stream fewer than 2^64. The reader of the item at the front has the characters
-- of the first bytes that are buffered.
pub record IsMixedReader (r : Inside) : Type 0 where
  pub standard : r.limit ≤ 65535
  pub short : r.place + length r.bytes.items < 2 ^ 64
  pub limited : r.front.text.limit ≡ r.limit
  pub begun : r.front.text.begun ≡ r.begun
  pub given : IsGiven r.bytes.items r.front
  pub drained : r.drained ≡ true → r.bad ≡ None → mixed_front r.limit r.begun r.bytes.items ≡ unfinished
