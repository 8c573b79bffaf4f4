-- What is taken at a door, for readers of one core.
use Rattle.std.specs.Prelude.{◌≡◌, ℕ, ◌⊎◌, ◌≤◌, Bool, true, List, [], ◌∷◌, length, map, All, IfSome, Option, Some, None, is_none}
use Rattle.lists.specs.KeriSpecs.Shown.{HasNone}
use Rattle.run_status.specs.DoorLinks.Taken.{AreTaken, IsCaused, IsEnough}
use Rattle.journal.specs.declared.journal.mode.Mode.{Mode}
use Rattle.run_status.specs.RunOutside.Makings.{AreMakings}
use Rattle.run_status.specs.RunOutside.Shown.{OutsideShown, making}
use Rattle.run_status.specs.declared.run_outside.making.Making.{Making}
use Rattle.run_status.specs.declared.run_outside.making.MakingKind.TheVariants.{Door as DoorKind, Verifier as VerifierKind}
use Rattle.run_status.specs.declared.run_status.besides.Besides.{Besides}
use Rattle.run_status.specs.RunStatus.Readers.{Reader}
use Rattle.keri_outside.specs.Shown.{SourceShown}
use Rattle.run_status.specs.RunStatus.Status.{nothing_besides}
use Rattle.reader_hub.specs.ReaderThreads.Given.{Given}
use Rattle.validator_core.specs.ValidatorCore.View.{CoreView}
use Rattle.keri_roles.specs.CoreRoles.CoreTold.{IsOverCore}
use Rattle.run_status.specs.RunRecord.NoJournal.{no_journal}
use Rattle.run_status.specs.RunRecord.Run.{DoorShown}
use Rattle.keri_roles.specs.CoreRoles.Work.{LinksShown, Work}

-- So many links at most came, with these bytes left: fewer than were wanted only where the door failed, or had no more or doesn't show them.
-- It failed only where its count rose.
pub record AreTakenAt (shown : Option (List (List ℕ))) (count : ℕ) (failed : Bool) (held : List (Option (List ℕ))) (door : DoorShown) : Type 0 where
  pub few : length held ≤ count
  pub enough : IsEnough count (length held) failed door.left
  pub taken : AreTaken shown door.left held
  pub cause : IsCaused failed 0 door.faults

-- none came where the door couldn't be made
abbrev pub AreTakenBy : Option (List (List ℕ)) → ℕ → Bool → List (Option (List ℕ)) → Option DoorShown → Type 0
AreTakenBy shown count failed held None = (held ≡ []) × (failed ≡ true)
AreTakenBy shown count failed held (Some door) = AreTakenAt shown count failed held door

-- links came with these sources and sinks; none of them had failed, and nothing is written to the sinks
pub record AreTakenFresh (shown : Option (List (List ℕ))) (count : ℕ) (sources : List SourceShown) (links : LinksShown) : Type 0 where
  pub taken : AreTakenBy shown count links.failed (map (λ s. s.left) sources) links.door
  pub sources_unfailed : All (λ s. s.faults ≡ 0) sources
  pub each : length links.sinks ≡ length sources
  pub sinks_unfailed : All (λ s. s.faults ≡ 0) links.sinks
  pub unwritten : All (λ s. HasNone s.written) links.sinks

-- the reader of a link is given its source, and a verifier of the helper where that could be made
pub record IsLinkGiven (before : OutsideShown) (helper : List ℕ) (source : SourceShown) (given : Given) : Type 0 where
  pub source_is : given.source ≡ Some source
  pub verifier : IfSome given.verifier (λ v. (v.says ≡ before.says helper) × HasNone v.inquiries × (v.faults ≡ 0))

-- and so the reader of each link
abbrev pub AreLinksGiven : OutsideShown → List ℕ → List SourceShown → List Given → Type 0
AreLinksGiven before helper [] [] = Unit {0}
AreLinksGiven before helper [] (g ∷ given) = ⊥
AreLinksGiven before helper (source ∷ sources) [] = ⊥
AreLinksGiven before helper (source ∷ sources) (g ∷ given) = IsLinkGiven before helper source g × AreLinksGiven before helper sources given

-- for each link the making of its verifier
abbrev pub verifiers_of : List ℕ → List Given → List Making
verifiers_of helper given = map (λ g. making VerifierKind helper (is_none g.verifier)) given

-- The door of an address was made, links were taken at it, and then a verifier of the helper was made for each; there are no other
-- makings.
pub record AreLinked (helper address : List ℕ) (count : ℕ) (links : LinksShown) (given : List Given) (before after : OutsideShown) : Type 0 where
  pub sources : List SourceShown
  pub taken : AreTakenFresh (before.links address) count sources links
  pub are_given : AreLinksGiven before helper sources given
  pub makes : AreMakings (making DoorKind address (is_none links.door) ∷ verifiers_of helper given) before after

-- Links were taken, and then there was no memory for their readers: nothing was read, and nothing is owed.
pub record AreUnseated (address : List ℕ) (count : ℕ) (links : LinksShown) (work : Work) : Type 0 where
  pub sources : List SourceShown
  pub taken : AreTakenFresh (work.before.links address) count sources links
  pub makes : AreMakings (making DoorKind address (is_none links.door) ∷ []) work.before work.after
  pub none_read : work.readers ≡ []
  pub none_told : work.journal ≡ no_journal
  pub none_owed : work.owed ≡ None
  pub nothing_else : work.besides ≡ record nothing_besides { door_failed = links.failed }

-- Links were read to a core, and the text of its journal and its readers is owed; or there was no memory for their readers.
abbrev pub IsOverLinks : Mode → (CoreView → List Reader → List ℕ → Bool → Type 0) → (Bool → Besides) → List ℕ → List ℕ → ℕ → LinksShown → Work → Type 0
IsOverLinks mode is_text finds helper address count links work =
    IsOverCore mode is_text finds (AreLinked helper address count links) links.failed work ⊎ AreUnseated address count links work

-- the door of an address was made, and links were taken at it; what verifiers say is as before
pub record TakesLinks (address : List ℕ) (count : ℕ) (sources : List SourceShown) (links : LinksShown) (before after : OutsideShown) : Type 0 where
  pub taken : AreTakenFresh (before.links address) count sources links
  pub makes : AreMakings (making DoorKind address (is_none links.door) ∷ []) before after
  pub says : after.says ≡ before.says

-- readers are given these sources and a verifier each, and there are no other makings
pub record ProvidesLinks (helper : List ℕ) (sources : List SourceShown) (given : List Given) (before after : OutsideShown) : Type 0 where
  pub are_given : AreLinksGiven before helper sources given
  pub makes : AreMakings (verifiers_of helper given) before after
