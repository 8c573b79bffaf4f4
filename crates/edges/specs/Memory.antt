-- What a place in memory shows at which peers come, and what comes there.
use Rattle.std.specs.Prelude.{ℕ, List, drop}
use Rattle.std.specs.declared.option.Option.{Option}
use Rattle.std.specs.declared.option.Option.TheVariants.{Some}
use Rattle.edges.specs.declared.link_act.LinkAct.{LinkAct}
use Rattle.edges.specs.declared.mem_listener.MemListener.{MemListener}
use Rattle.edges.specs.declared.mem_listener.MemHandle.{MemHandle}
use Rattle.edges.specs.declared.mem_listener.MemReader.{MemReader}
use Rattle.edges.specs.declared.mem_listener.MemWriter.{MemWriter}

abbrev pub listener_left : MemListener → Option (List (List ℕ))
listener_left listener = Some listener.links.items

abbrev pub listener_acts : MemListener → Option (List LinkAct)
listener_acts listener = listener.acts

abbrev pub handle_peer : MemHandle → ℕ
handle_peer link = link.peer

abbrev pub handle_sent : MemHandle → Option (List ℕ)
handle_sent link = Some link.bytes

abbrev pub reader_peer : MemReader → ℕ
reader_peer reader = reader.peer

abbrev pub reader_left : MemReader → List ℕ
reader_left reader = drop reader.place reader.bytes

abbrev pub writer_peer : MemWriter → ℕ
writer_peer writer = writer.peer

abbrev pub writer_has : MemWriter → List ℕ
writer_has writer = writer.written.items
