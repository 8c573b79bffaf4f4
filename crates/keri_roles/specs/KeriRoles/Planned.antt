-- A stream by its plan.
use Rattle.std.specs.Prelude.{◌≡◌, ◌≢◌, ℕ, List, [], ◌∷◌, Vec}
use Rattle.keri_outside.specs.declared.limits.Limits.{Limits}
use Rattle.journal.specs.declared.journal.body.Body.{Body}
use Rattle.journal.specs.declared.journal.mode.Mode.TheVariants.{Full}
use Rattle.report_lines.specs.Lines.{stream_text}
use Rattle.run_status.specs.declared.run_status.close.Close.{Close}
use Rattle.run_status.specs.declared.run_status.close.Close.TheVariants.{End, Bad, ReadFault, VerifierFault, SignerFault, DiskFault, WriteFault, Malformed, LimitReached as FullClose, OutOfMemory}
use Rattle.run_status.specs.RunStatus.Readers.{Reader}
use Rattle.validator_core.specs.ValidatorCore.View.{CoreView}
use Rattle.reader_hub.specs.declared.reader_threads.last_round.LastRound.{LastRound}
use Rattle.reader_hub.specs.declared.reader_threads.last_round.LastRound.TheVariants.{OutOfMemory as NoMemory}
use Rattle.reader_hub.specs.ReaderThreads.Told.{AllTold}
use Rattle.keri_roles.specs.KeriRoles.Generated.{counts_of, made_of}
use Rattle.keri_roles.specs.declared.keri_roles.generate.StreamPlan.{StreamPlan}

-- a core that wants receipts and seals was told the stream by its one reader, with the verdicts of the rehearsal
abbrev pub TellsMade : StreamPlan → Limits → Reader → LastRound → CoreView → Type 0
TellsMade plan limits reader rest core = AllTold Full limits (made_of plan.seed plan.logs plan.events ∷ []) (reader ∷ []) rest core

-- There was memory for what was read, and the line says how much the stream has, and how many of its events are accepted.
pub record HasCounts {Z : Type 0} (plan : StreamPlan) (accepted : List Body) (close : Close) (rest : LastRound) (line : Vec ℕ Z) : Type 0 where
  pub had_memory : (close ≢ OutOfMemory) × (close ≢ ReadFault) × (rest ≢ NoMemory)
  pub line_is : line.items ≡ stream_text (counts_of plan.seed plan.logs plan.events accepted)

-- a stream fails to be made for want of memory alone
abbrev pub made_close : Close → Close
made_close ReadFault = OutOfMemory
made_close End = End
made_close (Bad bad) = Bad bad
made_close VerifierFault = VerifierFault
made_close SignerFault = SignerFault
made_close DiskFault = DiskFault
made_close WriteFault = WriteFault
made_close (Malformed place) = Malformed place
made_close FullClose = FullClose
made_close OutOfMemory = OutOfMemory
