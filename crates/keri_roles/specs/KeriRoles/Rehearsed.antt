-- What `rehearse` does.
use Rattle.std.specs.Prelude.{◌≡◌, ℕ, List, [], ◌∷◌, codes, option_map}
use Rattle.std.specs.declared.option.Option.{Option}
use Rattle.std.specs.declared.option.Option.TheVariants.{None, Some}
use Rattle.keri_roles.specs.ItemConversion.Converts.{EndsShown, ends_shown}
use Rattle.keri_outside.specs.declared.limits.Limits.{Limits}
use Rattle.run_status.specs.RunOutside.Shown.{OutsideShown}
use Rattle.verifier_link.specs.declared.served.Served.{Served}
use Rattle.verifier_link.specs.declared.served.Served.TheVariants.{End, Malformed, ReadFault, WriteFault, LimitReached, OutOfMemory}
use Rattle.verifier_link.specs.Serving.{IsServed, SidesShown, sides_shown}
use Rattle.keri_outside.specs.Shown.{sink_shown, source_shown, SourceShown, SinkShown}
use Rattle.run_status.specs.declared.run_status.close.Close.{Close}
use Rattle.run_status.specs.declared.run_status.close.Close.TheVariants.{End as EndClose, Malformed as MalformedClose, ReadFault as ReadFaultClose, WriteFault as WriteFaultClose, LimitReached as FullClose, OutOfMemory as OutOfMemoryClose}
use Rattle.run_status.specs.RunStatus.Readers.{Reader}
use Rattle.run_status.specs.RunRecord.NoJournal.{no_journal}
use Rattle.run_status.specs.RunRecord.Run.{HasNoLinks, Run}
use Rattle.keri_roles.specs.CoreRoles.Work.{MakesSource}

-- the end of serving as a reader's close
abbrev pub serving_close : Served → Close
serving_close End = EndClose
serving_close (Malformed place) = MalformedClose place
serving_close ReadFault = ReadFaultClose
serving_close WriteFault = WriteFaultClose
serving_close LimitReached = FullClose
serving_close OutOfMemory = OutOfMemoryClose

-- the status of `rehearse`, by how the serving ended
abbrev pub serving_status : Served → ℕ
serving_status End = 0
serving_status (Malformed place) = 3
serving_status ReadFault = 5
serving_status WriteFault = 6
serving_status LimitReached = 9
serving_status OutOfMemory = 10

-- what a source and a sink show, as a link's sides
abbrev pub sides_of : SourceShown → SinkShown → SidesShown
sides_of source sink = sides_shown (record { left = source.left; faults = source.faults }) (record { written = sink.written; faults = sink.faults })

-- Questions were read of the source, which had failed not yet and held this, and the rehearsal's answers were written. Where
-- there is no source, nothing was.
abbrev pub Serves : ℕ → Option (List ℕ) → Option SourceShown → SinkShown → SinkShown → Served → Type 0
Serves most held None old new served = (served ≡ ReadFault) × (new ≡ old)
Serves most held (Some source) old new served = IsServed most (sides_of (record { left = held; faults = 0 }) old) (sides_of source new) served

-- what is seen of a command that writes as it reads: the outside before it, the source, where there is one, and the sink before and after it
pub record Serving : Type 0 where
  pub before : OutsideShown
  pub source : Option SourceShown
  pub sink_before : SinkShown
  pub sink_after : SinkShown

-- standard input was served
abbrev pub ServesInput : Limits → Serving → Served → Type 0
ServesInput limits serving served =
    Serves limits.stream_bytes (serving.before.holds (codes "-")) serving.source serving.sink_before serving.sink_after served

module _ {O S K : Type 0} (left : S → Option (List ℕ)) (faults : S → ℕ) (written : K → Option (List ℕ)) (sink_faults : K → ℕ) (sink : O → K) where
  abbrev pub sides_over : S → O → SidesShown
  sides_over source outside = sides_shown (source_shown left faults source) (sink_shown written sink_faults (sink outside))

  abbrev pub ends_over : S → O → EndsShown
  ends_over source outside = ends_shown left faults written sink_faults source (sink outside)

  abbrev pub serving_over : (O → OutsideShown) → O → O → Option S → Serving
  serving_over shown old new source = record {
    before = shown old;
    source = option_map (λ s. record { left = left s; faults = faults s }) source;
    sink_before = sink_shown written sink_faults (sink old);
    sink_after = sink_shown written sink_faults (sink new);
  }

-- `rehearse`: questions are read of standard input, and the rehearsal's answers to them are written to standard output, in order.
-- Nothing else is made, told or written.
pub record IsRehearsed (run : Run) : Type 0 where
  pub reader : Reader
  pub served : Served
  pub one : run.readers ≡ record reader { verifier = None; refused = []; seen = []; close = serving_close served } ∷ []
  pub makes : MakesSource (codes "-") reader.source run.before run.after
  pub serves : Serves run.before.limits.stream_bytes (run.before.holds (codes "-")) reader.source run.sink_before run.sink_after served
  pub none_told : run.journal ≡ no_journal
  pub no_signer : run.signer ≡ None
  pub no_disk : run.disk ≡ None
  pub no_old : run.old ≡ None
  pub no_links : HasNoLinks run
  pub status : run.status ≡ serving_status served
