-- Where no making failed nothing is lacking to a reader.
use Rattle.std.proofs.Common.{◌≡◌, ℕ, ◌+◌, Bool, true, false, ◌||◌, List, [], ◌∷◌, Option, Some, None, refl, ◌∙◌}
use Rattle.std.specs.Prelude.{All, is_none}
use Rattle.std.proofs.lemmas.List.Elements.{All-append, All-cons, All-nil}
use Rattle.lists.specs.KeriSpecs.Causes.{Rose}
use Rattle.cesr_stream.specs.declared.message.Message.{Message}
use Rattle.keri_outside.specs.declared.limits.Limits.{Limits}
use Rattle.journal.specs.declared.journal.journal.Journal.{Journal}
use Rattle.journal.specs.declared.journal.mode.Mode.{Mode}
use Rattle.journal.specs.declared.journal.mode.Mode.TheVariants.{Full}
use Rattle.journal.specs.Journal.Feeds.{FeedEach}
use Rattle.journal.specs.Journal.History.{Told as ToldEntry}
use Rattle.journal.specs.Journal.Journals.{told_by}
use Rattle.run_status.specs.RunOutside.Shown.{OutsideShown}
use Rattle.run_status.specs.declared.run_status.besides.Besides.{Besides}
use Rattle.run_status.specs.RunStatus.Readers.{Reader, VerifierShown}
use Rattle.keri_outside.specs.Shown.{SourceShown}
use Rattle.validator_core.specs.ValidatorCore.View.{CoreView}
use Rattle.reader_hub.specs.declared.reader_threads.last_round.LastRound.{LastRound}
use Rattle.reader_hub.specs.ReaderThreads.Fed.{ReadEach, ReadsBy, ends_of}
use Rattle.reader_hub.specs.ReaderThreads.Given.{Given}
use Rattle.keri_roles.specs.CoreRoles.CoreTold.{AreProvided, AreThrough, HadMemory, HasBoth, IsOverCore, IsToldBy, MetNoFault, OwesText, ReadsToCore, core_of}
use Rattle.keri_roles.specs.CoreRoles.LinksShown.{AreLinked}
use Rattle.keri_roles.specs.CoreRoles.Work.{LinksShown, Work}
use Rattle.keri_roles.proofs.CoreRolesLemmas.Causes.{files_rose, lacks, linked_rose, names_lack}
use Rattle.keri_roles.proofs.CoreRolesLemmas.OverCore.{none_parts}

module _ (limits : Limits) (told : List ToldEntry) (most : ℕ) (rest : LastRound) where
  -- a reader hands back what it was given
  one_there : (number : ℕ) (reader : Reader) (bytes : List ℕ) (offered : List Message) (source : Option SourceShown) (verifier : Option VerifierShown)
      → is_none source ≡ false → is_none verifier ≡ false → ReadsBy limits told most number rest source verifier reader bytes offered → HasBoth reader
  one_there number reader bytes offered None verifier s v r = cc
  one_there number reader bytes offered (Some source) None s v r = cc
  one_there number reader bytes offered (Some source) (Some verifier) s v r = record { source = rw r.source_is refl; verifier = rw r.verifier_is refl }

  each_there : (number : ℕ) (read : List (List ℕ)) (given : List Given) (readers : List Reader) (feeds : FeedEach limits told number (ends_of read readers))
      → lacks given ≡ false → ReadEach limits told most rest number read given readers feeds → All HasBoth readers
  each_there number [] [] [] feeds none each = All-nil _
  each_there number [] [] (reader ∷ readers) feeds none each = absurd each
  each_there number [] (g ∷ given) readers feeds none each = absurd each
  each_there number (bytes ∷ read) [] readers feeds none each = absurd each
  each_there number (bytes ∷ read) (g ∷ given) [] feeds none each = absurd each
  each_there number (bytes ∷ read) (g ∷ given) (reader ∷ readers) feeds none each =
      let parts = none_parts (is_none g.source || is_none g.verifier) (lacks given) none in
      let two = none_parts (is_none g.source) (is_none g.verifier) parts.0 in
      All-cons HasBoth reader readers (one_there number reader bytes _ g.source g.verifier two.0 two.1 each.0)
      (each_there (number + 1) read given readers feeds.1 parts.1 each.1)

-- what would have its cause isn't so where that isn't
pub not_so : {Cause : Type 0} (b : Bool) → (b ≡ true → Cause) → (Cause → ⊥) → b ≡ false
not_so true cause none = absurd (none (cause refl))
not_so false cause none = refl

-- of any command over a core of which something lacks only where a making failed
module _ (mode : Mode) (IsProvided : List Given → OutsideShown → OutsideShown → Type 0) (work : Work) (t : ReadsToCore mode IsProvided work) (rose : lacks t.given ≡ true → Rose work.before.faults work.after.faults) where
  told_through : (Rose work.before.faults work.after.faults → ⊥) → All MetNoFault work.readers → HadMemory t.rest work.readers
      → AreThrough mode work.before.limits t.given work.readers t.rest (told_by t.journal.fed.held work.journal.entries)
  told_through none met had =
      let there = each_there work.before.limits _ _ t.rest 0 t.journal.read t.given work.readers t.journal.fed.fed.each (not_so (lacks t.given) rose none) t.journal.each in
      t.journal.complete there met had

-- over files, and over links
module _ (mode : Mode) (is_text : CoreView → List Reader → List ℕ → Bool → Type 0) (finds : Bool → Besides) (door_failed : Bool) (work : Work) where
  pub over_files : (helper : List ℕ) (names : List (List ℕ)) (t : ReadsToCore mode (AreProvided helper names) work)
      → OwesText is_text finds door_failed (core_of mode work.before.limits t.journal.fed.held work.journal.entries) work.readers t.rest work.owed work.besides
      → IsOverCore mode is_text finds (AreProvided helper names) door_failed work
  over_files helper names t owes = record { told = t; owes = owes; complete = told_through mode (AreProvided helper names) work t (files_rose mode helper names work t) }

  pub over_linked : (helper address : List ℕ) (count : ℕ) (links : LinksShown) (t : ReadsToCore mode (AreLinked helper address count links) work)
      → OwesText is_text finds door_failed (core_of mode work.before.limits t.journal.fed.held work.journal.entries) work.readers t.rest work.owed work.besides
      → IsOverCore mode is_text finds (AreLinked helper address count links) door_failed work
  over_linked helper address count links t owes =
      record { told = t; owes = owes; complete = told_through mode (AreLinked helper address count links) work t (linked_rose mode helper address count links work t) }

-- of one reader
pub told_one : (mode : Mode) (limits : Limits) (given : Given) (reader : Reader) (rest : LastRound) (journal : Journal)
    → IsToldBy mode limits (given ∷ []) (reader ∷ []) rest journal → lacks (given ∷ []) ≡ false → All HasBoth (reader ∷ [])
told_one mode limits given reader rest journal t none = each_there limits _ _ rest 0 t.read (given ∷ []) (reader ∷ []) t.fed.fed.each none t.each

-- of two files, each read to a core of its own
module _ (helper first second : List ℕ) (given other_given : Given) (reader other_reader : Reader) (rest other_rest : LastRound) (journal other_journal : Journal) (limits : Limits) (before after : OutsideShown) where
  pub both_there : AreProvided helper (first ∷ second ∷ []) (given ∷ other_given ∷ []) before after
      → IsToldBy Full limits (given ∷ []) (reader ∷ []) rest journal → IsToldBy Full limits (other_given ∷ []) (other_reader ∷ []) other_rest other_journal
      → (Rose before.faults after.faults → ⊥) → All HasBoth (reader ∷ other_reader ∷ [])
  both_there provided t other none =
      let all = given ∷ other_given ∷ [] in
      let lack = not_so (lacks all) (λ e. provided.makes.rose (names_lack before helper (first ∷ second ∷ []) all provided.are_given ∙ e)) none in
      let parts = none_parts (is_none given.source || is_none given.verifier) (lacks (other_given ∷ [])) lack in
      let here = told_one Full limits given reader rest journal t (rw parts.0 refl) in
      let there = told_one Full limits other_given other_reader other_rest other_journal other parts.1 in
      All-append HasBoth (reader ∷ []) (other_reader ∷ []) here there
