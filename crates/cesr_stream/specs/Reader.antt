-- What the parts of a reader stand for.
use Rattle.std.specs.Prelude.{◌≡◌, ◌+◌, ◌^◌, ◌<◌, ◌≤◌, true, length}
use Rattle.std.specs.declared.option.Option.TheVariants.{None}
use Rattle.cesr_stream.specs.declared.reader.Reader.TheInside.{Inside}
use Rattle.cesr_stream.specs.Begun.{MayBeRead}
use Rattle.cesr_stream.specs.Front.{front}
use Rattle.cesr_stream.specs.Parts.{unfinished}
use Rattle.cesr_stream.specs.Reading.{Reading}

abbrev pub reading_of : Inside → Reading
reading_of r = record { limit = r.limit; place = r.place; rest = r.bytes.items; begun = r.begun; bad = r.bad; drained = r.drained }

-- A body has at most 65,535 bytes, and a stream fewer than 2^64. What was read of the next item stands at the front of
-- the rest.
pub record IsReader (r : Inside) : Type 0 where
  pub standard : r.limit ≤ 65535
  pub short : r.place + length r.bytes.items < 2 ^ 64
  pub read : MayBeRead r.limit r.bytes.items r.item
  pub drained : r.drained ≡ true → r.bad ≡ None → front r.limit r.begun r.bytes.items ≡ unfinished
