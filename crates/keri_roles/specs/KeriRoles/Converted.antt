-- What `convert` does.
use Rattle.std.specs.Prelude.{◌≡◌, ℕ, List, [], ◌∷◌, false, if◌then◌else◌, MatchOption}
use Rattle.std.specs.declared.option.Option.{Option}
use Rattle.std.specs.declared.option.Option.TheVariants.{None}
use Rattle.cesr_binary.specs.declared.domain.Domain.{Domain}
use Rattle.keri_roles.specs.ItemConversion.Converts.{Converts, EndsShown, conversion}
use Rattle.keri_roles.specs.declared.item_conversion.conversion.Conversion.{Conversion}
use Rattle.keri_outside.specs.declared.limits.Limits.{Limits}
use Rattle.run_status.specs.declared.run_status.close.Close.{Close}
use Rattle.run_status.specs.declared.run_status.close.Close.TheVariants.{End, Bad, ReadFault, VerifierFault, SignerFault, DiskFault, WriteFault, Malformed, LimitReached, OutOfMemory}
use Rattle.run_status.specs.RunStatus.Readers.{Reader}
use Rattle.keri_outside.specs.Shown.{SourceShown, SinkShown}
use Rattle.run_status.specs.RunStatus.RunEnds.{found}
use Rattle.run_status.specs.RunStatus.Status.{nothing_besides, status_of}
use Rattle.run_status.specs.RunRecord.NoJournal.{no_journal}
use Rattle.keri_roles.specs.KeriRoles.Rehearsed.{Serving}
use Rattle.run_status.specs.RunRecord.Run.{HasNoLinks, Run}
use Rattle.keri_roles.specs.CoreRoles.Work.{MakesSource}

-- what a source and a sink show
abbrev pub ends_of : SourceShown → SinkShown → EndsShown
ends_of source sink = record { source = source; sink = sink }

-- there is no source, and nothing was put
abbrev pub ConvertsNothing : Serving → Conversion → Type 0
ConvertsNothing serving c = (c ≡ conversion ReadFault false) × (serving.sink_after ≡ serving.sink_before)

-- The stream of the source, which hadn't failed yet and held this, was read, and its items were written in the domain.
abbrev pub ConvertsFrom : Limits → Domain → Option (List ℕ) → Serving → Conversion → Type 0
ConvertsFrom limits domain held serving c = MatchOption serving.source (ConvertsNothing serving c)
    (λ source. Converts limits domain (ends_of (record { left = held; faults = 0 }) serving.sink_before) (ends_of source serving.sink_after) c)

-- of a file of the outside
abbrev pub ConvertsFile : Limits → Domain → List ℕ → Serving → Conversion → Type 0
ConvertsFile limits domain name serving c = ConvertsFrom limits domain (serving.before.holds name) serving c

-- no memory, or else this status
abbrev pub unless_no_memory : Close → ℕ → ℕ
unless_no_memory OutOfMemory status = 10
unless_no_memory End status = status
unless_no_memory (Bad bad) status = status
unless_no_memory ReadFault status = status
unless_no_memory VerifierFault status = status
unless_no_memory SignerFault status = status
unless_no_memory DiskFault status = status
unless_no_memory WriteFault status = status
unless_no_memory (Malformed place) status = status
unless_no_memory LimitReached status = status

-- The status of `convert`. Where the sink failed that is told, however reading ended behind it.
abbrev pub conversion_status : Conversion → List Reader → ℕ
conversion_status c readers = if c.sink_failed then 6 else unless_no_memory c.close (status_of (found nothing_besides readers false))

-- what is seen of the source and the sink of a run
abbrev pub serving_in : Run → Reader → Serving
serving_in run reader = record { before = run.before; source = reader.source; sink_before = run.sink_before; sink_after = run.sink_after }

-- `convert --to DOMAIN FILE`: the stream of the file is read, in either domain or both, and its good items are written in the one that
-- was asked for, in order. Nothing else is made, told or written.
pub record IsConverted (domain : Domain) (name : List ℕ) (run : Run) : Type 0 where
  pub reader : Reader
  pub done : Conversion
  pub one : run.readers ≡ record reader { verifier = None; refused = []; seen = []; close = done.close } ∷ []
  pub makes : MakesSource name reader.source run.before run.after
  pub converts : ConvertsFile run.before.limits domain name (serving_in run reader) done
  pub none_told : run.journal ≡ no_journal
  pub no_signer : run.signer ≡ None
  pub no_disk : run.disk ≡ None
  pub no_old : run.old ≡ None
  pub no_links : HasNoLinks run
  pub status : run.status ≡ conversion_status done run.readers
