-- What a source reads, a sink writes and a door listens at, and how often each has failed.
use Rattle.std.specs.Prelude.{ℕ}
use Rattle.std.specs.declared.option.Option.{Option}
use Rattle.edges.specs.declared.door_over.DoorOver.{DoorOver}
use Rattle.edges.specs.declared.sink_over.SinkOver.{SinkOver}
use Rattle.edges.specs.declared.source_over.SourceOver.{SourceOver}

-- the reader of a source
abbrev pub read_by : {R : Type 0} → SourceOver R → R
read_by source = source.reader

abbrev pub source_faults : {R : Type 0} → SourceOver R → ℕ
source_faults source = source.faults

-- the writer of a sink
abbrev pub written_by : {W : Type 0} → SinkOver W → W
written_by sink = sink.writer

abbrev pub sink_faults : {W : Type 0} → SinkOver W → ℕ
sink_faults sink = sink.faults

-- where a door takes its links from, and the one that came last
abbrev pub listens_by : {L H : Type 0} → DoorOver L H → L
listens_by door = door.listener

abbrev pub last_link : {L H : Type 0} → DoorOver L H → Option H
last_link door = door.last

abbrev pub door_faults : {L H : Type 0} → DoorOver L H → ℕ
door_faults door = door.faults
