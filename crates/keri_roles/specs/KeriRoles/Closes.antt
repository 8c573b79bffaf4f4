-- How the reading of a source closed.
use Rattle.std.specs.Prelude.{ℕ, List, []}
use Rattle.std.specs.declared.option.Option.{Option}
use Rattle.cesr_stream.specs.Reading.{Reading}
use Rattle.run_status.specs.declared.message_feed.feed_close.FeedClose.TheVariants.{End as FeedEnd, Bad as FeedBad, ReadFault as FeedReadFault, LimitReached as FeedFull}
use Rattle.run_status.specs.MessageFeed.Closing.{ClosesBy}
use Rattle.report_lines.specs.Lines.{malformed_text, read_fault_text, full_text}
use Rattle.keri_outside.specs.Shown.{SourceShown}
use Rattle.run_status.specs.declared.run_status.close.Close.{Close}
use Rattle.run_status.specs.declared.run_status.close.Close.TheVariants.{End, Bad, ReadFault, VerifierFault, SignerFault, DiskFault, WriteFault, Malformed, LimitReached, OutOfMemory}

-- The source, which had failed not yet and held this, closed the reading by its cause.
abbrev pub Closes : ℕ → Option (List ℕ) → SourceShown → List ℕ → Reading → Close → Type 0
Closes most held source bytes reading End = ClosesBy {T = ℕ} most held source.left 0 source.faults bytes reading FeedEnd
Closes most held source bytes reading (Bad bad) = ClosesBy {T = ℕ} most held source.left 0 source.faults bytes reading (FeedBad bad)
Closes most held source bytes reading ReadFault = ClosesBy {T = ℕ} most held source.left 0 source.faults bytes reading FeedReadFault
Closes most held source bytes reading LimitReached = ClosesBy {T = ℕ} most held source.left 0 source.faults bytes reading FeedFull
Closes most held source bytes reading VerifierFault = ⊥
Closes most held source bytes reading SignerFault = ⊥
Closes most held source bytes reading DiskFault = ⊥
Closes most held source bytes reading WriteFault = ⊥
Closes most held source bytes reading (Malformed place) = ⊥
Closes most held source bytes reading OutOfMemory = ⊥

-- the line of a reader's close, where it has one
abbrev pub ending_text : ℕ → Close → List ℕ
ending_text reader End = []
ending_text reader (Bad bad) = malformed_text reader bad
ending_text reader ReadFault = read_fault_text reader
ending_text reader VerifierFault = []
ending_text reader LimitReached = full_text reader
ending_text reader SignerFault = []
ending_text reader DiskFault = []
ending_text reader WriteFault = []
ending_text reader (Malformed place) = []
ending_text reader OutOfMemory = []
