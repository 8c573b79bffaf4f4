-- Who signed twice, over two files.
use Rattle.std.specs.Prelude.{All, ◌≡◌, ◌≢◌, ◌==◌, ◌||◌, Bool, not, ℕ, List, [], ◌∷◌, length, IfSome, Option, Some}
use Rattle.lists.specs.KeriSpecs.Causes.{Rose}
use Rattle.blame_core.specs.BlameCore.Blames.{AreBlames}
use Rattle.blame_core.specs.BlameCore.Lines.{blames_text}
use Rattle.blame_core.specs.declared.blame_core.blames.Blame.{Blame}
use Rattle.journal.specs.declared.journal.journal.Journal.{Journal}
use Rattle.journal.specs.declared.journal.mode.Mode.TheVariants.{Full}
use Rattle.reader_hub.specs.ReaderThreads.Given.{Given}
use Rattle.reader_hub.specs.declared.reader_threads.last_round.LastRound.{LastRound}
use Rattle.reader_hub.specs.declared.reader_threads.last_round.LastRound.TheVariants.{OutOfMemory as NoMemory}
use Rattle.run_status.specs.declared.run_status.close.Close.{Close}
use Rattle.run_status.specs.declared.run_status.close.Close.TheVariants.{OutOfMemory}
use Rattle.run_status.specs.RunStatus.Readers.{Reader}
use Rattle.run_status.specs.RunStatus.Status.{nothing_besides}
use Rattle.validator_core.specs.ValidatorCore.View.{CoreView}
use Rattle.keri_roles.specs.CoreRoles.CoreTold.{AreProvided, HadMemory, HasBoth, IsToldBy, core_of, fails_last}
use Rattle.keri_roles.specs.CoreRoles.Work.{Work}
use Rattle.keri_roles.specs.declared.core_roles.blame.BlameWords.{BlameWords}

-- the text is the lines of the blames of two cores, and it is said whether there are any
pub record IsBlamesText (first second : CoreView) (text : List ℕ) (is_found : Bool) : Type 0 where
  pub blames : List Blame
  pub are_blames : AreBlames first second blames
  pub text_is : text ≡ blames_text first.held second.held blames
  pub found_is : is_found ≡ not (length blames == 0)

-- there was memory for what one reader read, and in its last round
pub record HadRoom (reader : Close) (last : LastRound) : Type 0 where
  pub close : reader ≢ OutOfMemory
  pub rest : last ≢ NoMemory

-- `blame --helper HELPER FILE FILE`: each file is read to a core of its own that wants receipts and seals. The makings are for each
-- file the source and the verifier of the helper. There are two journals, each told by the reader of its own file alone, and both are
-- handed back. The text is owed of who signed twice, the first core's event and then the second's, where there was memory for both.
-- There is a conflict where it has a line. Where no making failed each reader has its source and its verifier.
pub record IsBlamed (helper first second : List ℕ) (back : Option Journal) (work : Work) : Type 0 where
  pub given : Given
  pub other_given : Given
  pub provided : AreProvided helper (first ∷ second ∷ []) (given ∷ other_given ∷ []) work.before work.after
  pub reader : Reader
  pub other_reader : Reader
  pub both : work.readers ≡ reader ∷ other_reader ∷ []
  pub there : (Rose work.before.faults work.after.faults → ⊥) → All HasBoth work.readers
  pub rest : LastRound
  pub other_rest : LastRound
  pub journal : IsToldBy Full work.before.limits (given ∷ []) (reader ∷ []) rest work.journal
  pub other_journal : Journal
  pub back_is : back ≡ Some other_journal
  pub other_told : IsToldBy Full work.before.limits (other_given ∷ []) (other_reader ∷ []) other_rest other_journal
  pub has_blames : Bool
  pub owes : IfSome work.owed (λ text. HadMemory rest (reader ∷ []) × HadMemory other_rest (other_reader ∷ [])
      × IsBlamesText (core_of Full work.before.limits journal.fed.held work.journal.entries)
      (core_of Full work.before.limits other_told.fed.held other_journal.entries) text has_blames)
  pub nothing_else : work.besides
      ≡ record nothing_besides { conflict_found = has_blames; verifier_failed = fails_last rest || fails_last other_rest }

-- by its words
abbrev pub IsBlamedBy : BlameWords → Option Journal → Work → Type 0
IsBlamedBy words back work = IsBlamed words.helper.now words.first.now words.second.now back work
