-- A stream that is made of a seed.
use Rattle.std.specs.Prelude.{ℕ, ◌*◌, List, length}
use Rattle.std.specs.declared.option.Option.TheVariants.{None, Some}
use Rattle.journal.specs.declared.journal.body.Body.{Body}
use Rattle.keri_outside.specs.Rehearsal.{rehearsal_says}
use Rattle.controller_core.specs.LogMaker.Streams.{stream_rotations, stream_text}
use Rattle.report_lines.specs.declared.stream_counts.StreamCounts.{StreamCounts}
use Rattle.reader_hub.specs.ReaderThreads.Given.{Given}

-- what the one reader is given: the stream, and a verifier that never fails, and doesn't show what it is asked
abbrev pub made_of : ℕ → ℕ → ℕ → Given
made_of seed logs events = record {
  source = Some (record { left = Some (stream_text seed logs events); faults = 0 });
  verifier = Some (record { says = rehearsal_says; inquiries = None; faults = 0 });
}

-- how much the stream has, with what is accepted of it
abbrev pub counts_of : ℕ → ℕ → ℕ → List Body → StreamCounts
counts_of seed logs events accepted = record {
  logs = logs;
  events = logs * events;
  rotations = stream_rotations seed logs events;
  bytes = length (stream_text seed logs events);
  accepted = length accepted;
}
