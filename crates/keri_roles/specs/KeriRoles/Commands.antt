-- What each command does, and what a run of the program does.
use Rattle.std.specs.Prelude.{◌≡◌, ◌≢◌, ℕ, ◌∷◌, ◌⊎◌, true, List, [], codes, IfSome}
use Rattle.std.specs.declared.option.Option.{Option}
use Rattle.std.specs.declared.option.Option.TheVariants.{None, Some}
use Rattle.command_words.specs.Inputs.{links, named}
use Rattle.command_words.specs.Words.{Asked, blame, check, convert, export, generate, make, rehearse, validate, watch, witness}
use Rattle.journal.specs.declared.journal.mode.Mode.TheVariants.{Full}
use Rattle.journal.specs.Journal.Accepted.{accepted}
use Rattle.journal.specs.Journal.Journals.{told_by}
use Rattle.report_lines.specs.Lines.{stream_text}
use Rattle.run_status.specs.declared.run_status.close.Close.TheVariants.{ReadFault, VerifierFault}
use Rattle.run_status.specs.declared.run_status.besides.Besides.{Besides}
use Rattle.keri_roles.specs.KeriRoles.Check.{IsChecked}
use Rattle.keri_roles.specs.KeriRoles.Converted.{IsConverted}
use Rattle.reader_hub.specs.declared.reader_threads.last_round.LastRound.{LastRound}
use Rattle.reader_hub.specs.declared.reader_threads.last_round.LastRound.TheVariants.{VerifierFailed}
use Rattle.keri_roles.specs.CoreRoles.CoreTold.{HadMemory, IsToldBy}
use Rattle.keri_roles.specs.CoreRoles.Blamed.{IsBlamed}
use Rattle.keri_roles.specs.CoreRoles.Commands.{AreLinksValidated, AreLinksWatched, IsExported, IsValidated, IsWatched}
use Rattle.keri_roles.specs.KeriRoles.Generated.{counts_of, made_of}
use Rattle.keri_roles.specs.KeriRoles.Made.{IsMade}
use Rattle.run_status.specs.RunRecord.NoJournal.{no_journal}
use Rattle.keri_roles.specs.KeriRoles.Rehearsed.{IsRehearsed}
use Rattle.run_status.specs.RunStatus.Readers.{Reader}
use Rattle.run_status.specs.RunRecord.Run.{HasNoLinks, Run, EndsRun}
use Rattle.keri_roles.specs.CoreRoles.Work.{LinksShown, Work, work_in}
use Rattle.run_status.specs.RunStatus.Status.{nothing_besides}
use Rattle.shelf_log.specs.KeriDisk.Images.{DiskShown}
use Rattle.witness_core.specs.WitnessRole.Witnessed.{IsWitnessed}

-- `gen --seed SEED --logs LOGS --events EVENTS`: a core that wants receipts and seals is told the stream that is made of the
-- seed, with the verdicts of the rehearsal. Nothing is made of the outside, and no fault of a source or a verifier is answered.
-- The line is owed that says how much the stream has, and how many of its events are accepted.
pub record IsGenerated (seed logs events : ℕ) (work : Work) : Type 0 where
  pub reader : Reader
  pub one : work.readers ≡ record reader { source = None; verifier = None } ∷ []
  pub none_made : work.after ≡ work.before
  pub rest : LastRound
  pub journal : IsToldBy Full work.before.limits (made_of seed logs events ∷ []) (reader ∷ []) rest work.journal
  pub none_failed : (reader.close ≢ ReadFault) × (reader.close ≢ VerifierFault) × (rest ≢ VerifierFailed)
  pub owes : IfSome work.owed (λ text. HadMemory rest (reader ∷ [])
      × (text ≡ stream_text (counts_of seed logs events (accepted Full [] (told_by journal.fed.held work.journal.entries)))))
  pub nothing_else : work.besides ≡ nothing_besides

-- nothing was made, read or told
pub record IsIdle (work : Work) : Type 0 where
  pub none_made : work.after ≡ work.before
  pub none_read : work.readers ≡ []
  pub none_told : work.journal ≡ no_journal

-- words that aren't in the form: the line `words` is owed
pub record RefusesWords (work : Work) : Type 0 where
  pub idle : IsIdle work
  pub owes : work.owed ≡ Some (codes "words\n")
  pub nothing_else : work.besides ≡ record nothing_besides { words_refused = true }

-- what was asked for was done, with no disk, what it owes was written, and the status is by what was found
pub record IsWritten (Does : Work → Type 0) (run : Run) : Type 0 where
  pub owed : Option (List ℕ)
  pub besides : Besides
  pub does : Does (work_in run owed besides)
  pub ends_run : EndsRun owed besides run
  pub no_disk : run.disk ≡ None
  pub no_old : run.old ≡ None
  pub no_links : HasNoLinks run

-- the same over links, with the door and the sinks of the links, which are handed back
pub record IsLinked (Does : LinksShown → Work → Type 0) (run : Run) : Type 0 where
  pub owed : Option (List ℕ)
  pub besides : Besides
  pub does : Does (record { door = run.door; sinks = run.sinks; failed = besides.door_failed }) (work_in run owed besides)
  pub ends_run : EndsRun owed besides run
  pub no_disk : run.disk ≡ None
  pub no_old : run.old ≡ None

-- A row for each command, of which `convert`, `rehearse` and `witness` alone write as they read. `witness` alone has disks, which it hands
-- back.
abbrev pub CarriesOut : {D : Type 0} → (D → DiskShown) → Option D → Option D → Option Asked → Run → Type 0
CarriesOut shown disk old None run = IsWritten RefusesWords run
CarriesOut shown disk old (Some (check name)) run = IsWritten (IsChecked name) run
CarriesOut shown disk old (Some (validate helper (named names))) run = IsWritten (IsValidated helper names) run
CarriesOut shown disk old (Some (validate helper (links address count))) run = IsLinked (AreLinksValidated helper address count) run
CarriesOut shown disk old (Some (watch helper (named names))) run = IsWritten (IsWatched helper names) run
CarriesOut shown disk old (Some (watch helper (links address count))) run = IsLinked (AreLinksWatched helper address count) run
CarriesOut shown disk old (Some (witness helper key shelf from inputs)) run = IsWitnessed shown disk old helper key shelf from inputs run
CarriesOut shown disk old (Some (export helper prefix names)) run = IsWritten (IsExported helper prefix names) run
CarriesOut shown disk old (Some (blame helper first second)) run = IsWritten (IsBlamed helper first second run.second) run
CarriesOut shown disk old (Some (make helper plan log)) run = IsWritten (IsMade helper plan log) run
CarriesOut shown disk old (Some (convert domain name)) run = IsConverted domain name run
CarriesOut shown disk old (Some (generate seed logs events)) run = IsWritten (IsGenerated seed logs events) run
CarriesOut shown disk old (Some rehearse) run = IsRehearsed run

-- there was no memory to begin with: nothing was made, read, told or written
pub record IsUnbegun (run : Run) : Type 0 where
  pub none_made : run.after ≡ run.before
  pub none_read : run.readers ≡ []
  pub none_told : run.journal ≡ no_journal
  pub no_signer : run.signer ≡ None
  pub no_disk : run.disk ≡ None
  pub no_old : run.old ≡ None
  pub no_links : HasNoLinks run
  pub none_written : run.sink_after ≡ run.sink_before
  pub status : run.status ≡ 10

-- what a run of the program does
abbrev pub IsRunOf : {D : Type 0} → (D → DiskShown) → Option D → Option D → Option Asked → Run → Type 0
IsRunOf shown disk old asked run = CarriesOut shown disk old asked run ⊎ IsUnbegun run
