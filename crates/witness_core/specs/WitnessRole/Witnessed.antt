-- What `witness` does: it opens a shelf, starts a witness from it, and serves it a file or links.
use Rattle.std.specs.Prelude.{◌≡◌, ◌⊎◌, ℕ, false, true, List, [], IfSome, option_map}
use Rattle.std.specs.declared.option.Option.{Option}
use Rattle.std.specs.declared.option.Option.TheVariants.{None, Some}
use Rattle.std.specs.declared.result.Result.TheVariants.{Ok, Err}
use Rattle.cesr_codes.specs.declared.key.Key.{Key}
use Rattle.command_words.specs.Inputs.{Inputs, inputs_by, links, named}
use Rattle.command_words.specs.declared.inputs.Inputs.{Inputs as InputWords}
use Rattle.command_words.specs.declared.inputs.Inputs.TheVariants.{Links, Named}
use Rattle.journal.specs.declared.journal.resume_fault.ResumeFault.{ResumeFault}
use Rattle.journal.specs.declared.journal.resume_fault.ResumeFault.TheVariants.{NotALog, OutOfMemory}
use Rattle.shelf_log.specs.KeriDisk.Images.{DiskShown}
use Rattle.keri_outside.specs.declared.limits.Limits.{Limits}
use Rattle.run_status.specs.RunOutside.Shown.{OutsideShown}
use Rattle.run_status.specs.declared.run_status.besides.Besides.{Besides}
use Rattle.run_status.specs.RunStatus.Status.{nothing_besides}
use Rattle.shelf_log.specs.ShelfLog.OnDisk.{AllHold}
use Rattle.validator_core.specs.ValidatorCore.View.{CoreView, open_of}
use Rattle.witness_core.specs.WitnessStore.Payloads.{AreListed}
use Rattle.witness_core.specs.WitnessStore.Starts.{AreNoStart, IsStarted}
use Rattle.witness_core.specs.WitnessOpening.Found.{found_by, text_of}
use Rattle.witness_core.specs.WitnessOpening.Lines.{log_text}
use Rattle.witness_core.specs.WitnessOpening.Names.{KeepsNames}
use Rattle.witness_core.specs.WitnessOpening.Opening.{IsOpening}
use Rattle.witness_core.specs.declared.witness_opening.fault.OpeningFault.{OpeningFault}
use Rattle.witness_core.specs.WitnessLink.Stored.{IsLawfulList}
use Rattle.witness_core.specs.declared.witness_opening.fault.OpeningFault.TheVariants.{OutOfMemory as NoMemory}
use Rattle.run_status.specs.RunRecord.NoJournal.{no_journal}
use Rattle.run_status.specs.RunRecord.Run.{HasNoLinks, Run, EndsRun}
use Rattle.witness_core.specs.WitnessLink.Links.{Left}
use Rattle.witness_core.specs.WitnessRole.ServedFile.{IsServing}
use Rattle.witness_core.specs.WitnessRole.ServedLinks.{IsServingLinks}
use Rattle.witness_core.specs.declared.witness_role.role.WitnessWords.{WitnessWords}

-- the line of a list with which no witness starts
abbrev pub start_text : ResumeFault → List ℕ
start_text (NotALog number) = log_text number
start_text OutOfMemory = []

-- what is found by it
abbrev pub start_found : ResumeFault → Besides
start_found (NotALog number) = record nothing_besides { shelf_refused = true }
start_found OutOfMemory = nothing_besides

-- how many links are to be served
abbrev pub count_in : {N : Type 0} → InputWords N → ℕ
count_in (Named name) = 0
count_in (Links it) = it.count

-- Nothing was read: the line of why is written, for which there must be memory, and the status is by what was found.
pub record IsUnread (no_memory : Type 0) (text : List ℕ) (besides : Besides) (run : Run) : Type 0 where
  pub none_read : run.readers ≡ []
  pub none_told : run.journal ≡ no_journal
  pub no_signer : run.signer ≡ None
  pub no_links : HasNoLinks run
  pub owed : Option (List ℕ)
  pub line : IfSome owed (λ t. (no_memory → ⊥) × (t ≡ text))
  pub ends_run : EndsRun owed besides run

-- there is no shelf, for this reason
abbrev pub IsUnopened : OpeningFault → Run → Type 0
IsUnopened fault run = IsUnread (fault ≡ NoMemory) (text_of fault) (found_by fault) run

-- no witness starts from the list of the shelf
pub record IsUnstarted {D : Type 0} (disk : Option D) (first : D) (list : List (List ℕ)) (run : Run) : Type 0 where
  pub disk_is : disk ≡ Some first
  pub same : run.after ≡ run.before
  pub fault : ResumeFault
  pub none : AreNoStart list fault
  pub unread : IsUnread (fault ≡ OutOfMemory) (start_text fault) (start_found fault) run

module _ {D : Type 0} (shown : D → DiskShown) where
  -- what is read serves the witness: the file, or the links that come
  abbrev pub ServesInput : Key → Limits → List ℕ → Inputs (List ℕ) → Left D → Option D → Run → Type 0
  ServesInput key limits helper (named name) old disk run = IsServing shown key limits helper name old disk run
  ServesInput key limits helper (links address count) old disk run = IsServingLinks shown key limits helper address count old disk run

  -- a witness starts from the list, which is lawful, with no question open, and is served
  pub record IsStartedOver (disk : Option D) (helper : List ℕ) (key : Key) (input : Inputs (List ℕ)) (limits : Limits) (first : D) (list : List (List ℕ)) (run : Run) : Type 0 where
    pub core : CoreView
    pub started : IsStarted limits list core
    pub listed : AreListed core list
    pub lawful : IsLawfulList list
    pub none_open : open_of core ≡ []
    pub serves : ServesInput key limits helper input (record { core = core; list = list; broken = false; disk = first }) disk run

  abbrev pub StartsOver : Option D → List ℕ → Key → Inputs (List ℕ) → Limits → D → List (List ℕ) → Run → Type 0
  StartsOver disk helper key input limits first list run = IsUnstarted disk first list run ⊎ IsStartedOver disk helper key input limits first list run

  module _ (disk old : Option D) (helper : List ℕ) (key : Key) (shelf : List ℕ) (from : Option (List ℕ)) (input : Inputs (List ℕ)) (run : Run) where
    -- the shelf wasn't opened
    pub record OpensNone : Type 0 where
      pub fault : OpeningFault
      pub opening : IsOpening shown run.before.limits run.before run.after shelf from disk old (Err fault)
      pub unopened : IsUnopened fault run

    -- the shelf was opened, and each image of its disk stands for the list; what follows is over the outside as that left it
    pub record OpensOne : Type 0 where
      pub first : D
      pub list : List (List ℕ)
      pub middle : OutsideShown
      pub opening : IsOpening shown run.before.limits run.before middle shelf from (Some first) old (Ok list)
      pub names : KeepsNames run.before middle
      pub stands : AllHold (shown first) list
      pub starts : StartsOver disk helper key input run.before.limits first list (record run { before = middle })

    -- `witness --helper HELPER --prefix KEY --shelf SHELF --from OLD FILE`, or `--listen ADDRESS --links COUNT` in the place of FILE:
    -- the shelf is opened, filled with the list of an old one where that is named and there is none yet; a witness starts from its
    -- list; and it serves the file as a link, or the links that come, whose receipts are written as they are made. Where there is no
    -- shelf or no witness, nothing is read, and that is said.
    abbrev pub IsWitnessed : Type 0
    IsWitnessed = OpensNone ⊎ OpensOne

  abbrev pub IsWitnessedBy : Option D → Option D → WitnessWords → Run → Type 0
  IsWitnessedBy disk old words run = IsWitnessed disk old words.helper.now words.prefix words.shelf.now (option_map (λ f. f.now) words.from)
      (inputs_by (λ name. name.now) words.input) run
