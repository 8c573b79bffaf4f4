-- Which program a helper is.
use Rattle.std.proofs.Common.{Global}
use Rattle.std.specs.Prelude.{◌≡◌, ℕ, Bool, true, false, List, [], ◌∷◌, codes}
use Rattle.std.specs.Process.{command_args, command_dir, command_program}
use Rattle.std.specs.Str.{bytes_eq}
use Rattle.std.specs.declared.option.Option.TheVariants.{None}
use Rattle.std.specs.declared.process.command.Command.{Command}
use Rattle.verifier_link.specs.declared.helper.Helper.{Helper}
use Rattle.verifier_link.specs.declared.helper.Helper.TheVariants.{Rehearsal, Program}
use Rattle.edges.specs.declared.sink_over.SinkOver.{SinkOver}
use Rattle.edges.specs.declared.source_over.SourceOver.{SourceOver}
use Rattle.keri.specs.declared.real_sink.Target.{Target}
use Rattle.keri.specs.declared.real_source.Origin.{Origin}
use Rattle.keri.specs.declared.started_program.StartedProgram.{StartedProgram}

-- the command that a program was started by
abbrev pub started_by : StartedProgram → Command Global
started_by program = program.command

-- it is the program of this name, with the one word `rehearse`, in the caller's folder
pub record IsStarted (name : List ℕ) (program : StartedProgram) : Type 0 where
  pub named : command_program (started_by program) ≡ name
  pub word : command_args (started_by program) ≡ codes "rehearse" ∷ []
  pub folder : command_dir (started_by program) ≡ None

-- `rehearsal` is the name of the rehearsal, and each other one that of a program
abbrev pub is_rehearsal : List ℕ → Bool
is_rehearsal name = bytes_eq name (codes "rehearsal")

-- the helper is the program of this name
abbrev pub IsProgram : List ℕ → Helper (SourceOver Origin) (SinkOver Target) StartedProgram → Type 0
IsProgram name (Rehearsal rehearsal) = ⊥
IsProgram name (Program link program) = IsStarted name program

-- the helper is the one of this name
abbrev pub IsNamed : List ℕ → Helper (SourceOver Origin) (SinkOver Target) StartedProgram → Type 0
IsNamed name (Rehearsal rehearsal) = is_rehearsal name ≡ true
IsNamed name (Program link program) = (is_rehearsal name ≡ false) × IsStarted name program
