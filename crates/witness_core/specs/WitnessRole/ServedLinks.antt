-- What becomes of links that a witness is to serve, one after another.
use Rattle.std.specs.Prelude.{◌≡◌, ℕ, ◌≤◌, ◌⊎◌, Bool, false, true, List, [], ◌∷◌, ◌++◌, length, map, All, IfSome}
use Rattle.std.specs.List.{list_all}
use Rattle.std.specs.declared.option.Option.{Option}
use Rattle.std.specs.declared.option.Option.TheVariants.{None, Some}
use Rattle.lists.specs.KeriSpecs.Shown.{HasNone}
use Rattle.cesr_codes.specs.declared.digest.Digest.{Digest}
use Rattle.cesr_codes.specs.declared.key.Key.{Key}
use Rattle.cesr_codes.specs.declared.sig.Sig.{Sig}
use Rattle.journal.specs.declared.journal.refusal.Refusal.{Refusal}
use Rattle.shelf_log.specs.KeriDisk.Images.{DiskShown}
use Rattle.run_status.specs.DoorLinks.Taken.{AreTaken, IsCaused, IsEnough}
use Rattle.keri_outside.specs.declared.inquiry.Inquiry.{Inquiry}
use Rattle.keri_outside.specs.declared.limits.Limits.{Limits}
use Rattle.keri_outside.specs.declared.signing.Signing.{Signing}
use Rattle.run_status.specs.declared.run_outside.making.MakingKind.TheVariants.{Door as DoorKind}
use Rattle.run_status.specs.declared.run_status.close.Close.{Close}
use Rattle.run_status.specs.declared.run_status.close.Close.TheVariants.{End, VerifierFault, SignerFault}
use Rattle.run_status.specs.declared.run_status.reader_end.ReaderEnd.{ReaderEnd}
use Rattle.run_status.specs.RunStatus.Readers.{Reader, VerifierShown}
use Rattle.keri_outside.specs.Shown.{SinkShown, SourceShown}
use Rattle.run_status.specs.RunStatus.Status.{nothing_besides}
use Rattle.validator_core.specs.ValidatorCore.View.{open_of}
use Rattle.witness_core.specs.WitnessStore.Storing.{StoresOn}
use Rattle.witness_core.specs.WitnessCore.Telling.{AsksVerdicts}
use Rattle.witness_core.specs.declared.witness_receipts.receipt.Receipt.{Receipt}
use Rattle.witness_core.specs.WitnessLink.Calls.{receipts_in}
use Rattle.witness_core.specs.WitnessLink.Closes.{asks_next}
use Rattle.witness_core.specs.WitnessLink.Links.{Left, Serving, Terms}
use Rattle.witness_core.specs.WitnessLink.Served.{ServesLink}
use Rattle.witness_core.specs.WitnessLink.Stored.{HoldsEach, IsLawfulList, IsOfListed}
use Rattle.run_status.specs.RunRecord.Run.{DoorShown, Run, SignerShown}
use Rattle.witness_core.specs.WitnessRole.ServedFile.{EndsWith, MakesServing, at_link}
use Rattle.witness_core.specs.WitnessRole.Views.{Views, link_sinks_by, reader_by, readers_by}
use Rattle.witness_core.specs.declared.witness_role.links_kept.LinksKept.{LinksKept}

-- a link that was served: what its source and its sink were before and after, what was noted of its messages, and how it closed
pub record ServedLink : Type 0 where
  pub source_old : SourceShown
  pub source : SourceShown
  pub sink_old : SinkShown
  pub sink : SinkShown
  pub refused : List Refusal
  pub seen : List Digest
  pub close : Close

-- the witness that serves links, and what its verifier and its signer were asked and how often they have failed, before one of the links
-- or behind it
pub record Between (D : Type 0) : Type 0 where
  pub left : Left D
  pub inquiries : Option (List Inquiry)
  pub verifier_faults : ℕ
  pub signings : Option (List Signing)
  pub signer_faults : ℕ

-- what its verifier and its signer show then
abbrev pub verifier_at : {D : Type 0} → (Key → List ℕ → Sig → Option Bool) → Between D → VerifierShown
verifier_at says between = record { says = says; inquiries = between.inquiries; faults = between.verifier_faults }

abbrev pub signer_at : {D : Type 0} → (Key → List ℕ → Option Sig) → Between D → SignerShown
signer_at gives between = record { gives = gives; signings = between.signings; faults = between.signer_faults }

-- what serves links is that at a moment
abbrev pub between_of : {D : Type 0} → Serving D → Between D
between_of serving = record {
  left = serving.left;
  inquiries = serving.verifier.inquiries;
  verifier_faults = serving.verifier.faults;
  signings = serving.signer.signings;
  signer_faults = serving.signer.faults;
}

-- a reader of no link, with the verifier, where there is one
abbrev pub idle_reader : Option VerifierShown → Close → Reader
idle_reader verifier close = record { source = None; verifier = verifier; refused = []; seen = []; close = close }

-- the reader of a link, and with the verifier
abbrev pub reader_of : ServedLink → Reader
reader_of link = record { source = Some link.source; verifier = None; refused = link.refused; seen = link.seen; close = link.close }

-- the readers of a run: the one verifier stands in the first, which there is also where no link came
abbrev pub readers_with : VerifierShown → List Reader → List Reader
readers_with verifier [] = idle_reader (Some verifier) End ∷ []
readers_with verifier (reader ∷ readers) = record reader { verifier = Some verifier } ∷ readers

-- No more links were served than so many, and fewer only where one closed so that the run ends, the door failed, or it had none left
-- or doesn't show them.
pub record AreEnough (count : ℕ) (links : List ServedLink) (failed : Bool) (left : Option (List (List ℕ))) : Type 0 where
  pub no_more : length links ≤ count
  pub no_fewer : IsEnough count (length links) failed left ⊎ (list_all (λ l. asks_next l.close) links ≡ false)

-- a link came fresh: neither its source nor its sink had failed, and nothing was written to it
pub record IsFresh (link : ServedLink) : Type 0 where
  pub source_unfailed : link.source_old.faults ≡ 0
  pub sink_unfailed : link.sink_old.faults ≡ 0
  pub unwritten : HasNone link.sink_old.written

module _ {D : Type 0} (shown : D → DiskShown) (key : Key) (limits run_limits : Limits) (says : Key → List ℕ → Sig → Option Bool) (gives : Key → List ℕ → Option Sig) where
  -- a link was served, as the witness stood before it
  pub record ServesOne (link : ServedLink) (old new : Between D) : Type 0 where
    pub fresh : IsFresh link
    pub serves : ServesLink run_limits link.source_old link.source
        (at_link shown key limits old.left (verifier_at says old) (signer_at gives old) link.sink_old [] [])
        (at_link shown key limits new.left (verifier_at says new) (signer_at gives new) link.sink link.refused link.seen) link.close

  -- what came with these bytes was served as a link, with this reader and this sink
  pub record IsServed (held : Option (List ℕ)) (reader : Reader) (sink : SinkShown) (old new : Between D) : Type 0 where
    pub link : ServedLink
    pub one : ServesOne link old new
    pub held_is : held ≡ link.source_old.left
    pub reader_is : reader ≡ reader_of link
    pub sink_is : sink ≡ link.sink

  -- Links were served one after another, by one witness, verifier and signer: each begins where the one before it ended, and behind
  -- one whose close ends the run none comes.
  abbrev pub ServesEach : List ServedLink → Between D → Between D → Type 0
  ServesEach [] old new = new ≡ old
  ServesEach (link ∷ links) old new = (mid : Between D) × ServesOne link old mid × (asks_next link.close ≡ false → links ≡ []) × ServesEach links mid new

  -- what the witness goes by at each link
  abbrev pub link_terms : Terms
  link_terms = record { says = says; gives = gives; key = key; limits = limits }

  -- the receipts that were due at links, in order
  abbrev pub receipts_due : (links : List ServedLink) (old new : Between D) → ServesEach links old new → List Receipt
  receipts_due [] old new each = []
  receipts_due (link ∷ links) old new each = receipts_in each.1.serves.serves.calls ++ receipts_due links each.0 new each.3

  -- A stop at any moment leaves what was stored before the first link, and the first few of what was accepted since, none skipped,
  -- which is lawful. Behind the last link the list, and each image, has the event of each receipt.
  pub record StoresThrough (receipts : List Receipt) (old new : Left D) : Type 0 where
    pub stores : StoresOn old.list (shown old.disk) new.core new.list (shown new.disk)
    pub lawful : IsLawfulList stores.accepted
    pub of_stored : All (IsOfListed link_terms new.list) receipts
    pub held : (c : List ℕ) → (shown new.disk).images c → HoldsEach link_terms receipts c

  -- so it is through all links; where none came the witness is as it was
  abbrev pub StopsLeave : (links : List ServedLink) (old new : Between D) → ServesEach links old new → Type 0
  StopsLeave [] old new each = Unit {0}
  StopsLeave (link ∷ links) old new each = StoresThrough (receipts_due (link ∷ links) old new each) old.left new.left

  -- The links that came at a door were served, and so many are enough. These are their readers and their sinks, in order, and what a
  -- stop leaves through all of them. Where no question was open before the first, the verifier was asked for the verdicts that the core
  -- was told since, in order, and for nothing else, but maybe for the first question that is open behind the last.
  pub record ServesComing (count : ℕ) (failed : Bool) (door_old door : DoorShown) (old new : Between D) (readers : List Reader) (sinks : List SinkShown) : Type 0 where
    pub links : List ServedLink
    pub serves : ServesEach links old new
    pub stops : StopsLeave links old new serves
    pub inquired : open_of old.left.core ≡ [] → AsksVerdicts old.inquiries new.inquiries old.left.core new.left.core
    pub came : AreTaken door_old.left door.left (map (λ l. l.source_old.left) links)
    pub enough : AreEnough count links failed door.left
    pub cause : IsCaused failed door_old.faults door.faults
    pub readers_are : readers ≡ map reader_of links
    pub sinks_are : sinks ≡ map (λ l. l.sink) links

-- nothing had failed yet, and these were asked
abbrev pub at_first : {D : Type 0} → Option (List Inquiry) → Option (List Signing) → Left D → Between D
at_first inquiries signings left = record { left = left; inquiries = inquiries; verifier_faults = 0; signings = signings; signer_faults = 0 }

-- the verifier and the signer show this in the end
abbrev pub at_last : {D : Type 0} → Left D → VerifierShown → SignerShown → Between D
at_last left verifier signer =
    record { left = left; inquiries = verifier.inquiries; verifier_faults = verifier.faults; signings = signer.signings; signer_faults = signer.faults }

-- One of the makings failed: no link is asked for, and the witness is as it was. A verifier that was made was asked nothing, and never
-- failed.
pub record ServesNoLink {D : Type 0} (links : Option (List (List ℕ))) (verifier : Option VerifierShown) (at : Close) (readers : List Reader) (old new : Left D) (run : Run) : Type 0 where
  pub one : readers ≡ idle_reader verifier at ∷ []
  pub unasked : IfSome run.door (λ door. door ≡ record { left = links; faults = 0 })
  pub none_inquired : IfSome verifier (λ v. HasNone v.inquiries × (v.faults ≡ 0))
  pub no_sinks : run.sinks ≡ []
  pub same : new ≡ old

module _ {D : Type 0} (shown : D → DiskShown) (key : Key) (limits : Limits) where
  -- All that was made serves the links that come. The verifier and the signer were asked nothing before, where they show it.
  pub record ServesLinks (helper address : List ℕ) (count : ℕ) (old new : Left D) (door : DoorShown) (verifier : VerifierShown) (signer : SignerShown) (failed : Bool) (readers : List Reader) (run : Run) : Type 0 where
    pub each : List Reader
    pub inquiries : Option (List Inquiry)
    pub none_inquired : HasNone inquiries
    pub signings : Option (List Signing)
    pub none_signed : HasNone signings
    pub coming : ServesComing shown key limits run.before.limits (run.before.says helper) (run.before.gives helper) count failed
        (record { left = run.before.links address; faults = 0 }) door
        (at_first inquiries signings old) (at_last new verifier signer) each run.sinks
    pub says : verifier.says ≡ run.before.says helper
    pub gives : signer.gives ≡ run.before.gives helper
    pub readers_are : readers ≡ readers_with verifier each

  -- all three were made, of which the door showed this, and the verifier and the signer were so before; and the run ends
  pub record ServesAllLinks (run_limits : Limits) (says : Key → List ℕ → Sig → Option Bool) (gives : Key → List ℕ → Option Sig) (count : ℕ) (door_old : DoorShown) (old : Between D) (disk : Option D) (run : Run) : Type 0 where
    pub door : DoorShown
    pub verifier : VerifierShown
    pub signer : SignerShown
    pub each : List Reader
    pub new : Left D
    pub failed : Bool
    pub door_is : run.door ≡ Some door
    pub signer_is : run.signer ≡ Some signer
    pub coming : ServesComing shown key limits run_limits says gives count failed door_old door
        old (at_last new verifier signer) each run.sinks
    pub says_is : verifier.says ≡ says
    pub gives_is : signer.gives ≡ gives
    pub ends : EndsWith shown disk (readers_with verifier each) (record nothing_besides { door_failed = failed }) new run

  -- What is made serves the links that come. Where the door couldn't be made, that is found, and the reader closes by nothing.
  abbrev pub ServesLinksBy : List ℕ → List ℕ → ℕ → Left D → Left D → Option DoorShown → Option VerifierShown → Option SignerShown → Bool → List Reader → Run → Type 0
  ServesLinksBy helper address count old new None verifier signer failed readers run =
      (failed ≡ true) × ServesNoLink (run.before.links address) None End readers old new run
  ServesLinksBy helper address count old new (Some door) None signer failed readers run =
      (failed ≡ false) × ServesNoLink (run.before.links address) None VerifierFault readers old new run
  ServesLinksBy helper address count old new (Some door) (Some verifier) None failed readers run =
      (failed ≡ false) × ServesNoLink (run.before.links address) (Some verifier) SignerFault readers old new run
  ServesLinksBy helper address count old new (Some door) (Some verifier) (Some signer) failed readers run =
      ServesLinks helper address count old new door verifier signer failed readers run

  -- The door of an address, and the verifier and the signer of a helper, are made. What was made serves the links that come at the
  -- door, so many at most, each with its receipts to its own sink, and the run ends.
  pub record IsServingLinks (helper address : List ℕ) (count : ℕ) (old : Left D) (disk : Option D) (run : Run) : Type 0 where
    pub verifier : Option VerifierShown
    pub makes : MakesServing DoorKind address helper run.door verifier run.signer run.before run.after
    pub readers : List Reader
    pub new : Left D
    pub failed : Bool
    pub serves : ServesLinksBy helper address count old new run.door verifier run.signer failed readers run
    pub same_sink : run.sink_after ≡ run.sink_before
    pub ends : EndsWith shown disk readers (record nothing_besides { door_failed = failed }) new run

module _ {O S V G D P K W : Type 0} (views : Views O S V G D P K) (serving : W → Serving D) where
  -- what came was served as a link, with this reader and this sink
  abbrev pub IsServedBy : Limits → Option (List ℕ) → ReaderEnd S V → K → W → W → Type 0
  IsServedBy run_limits held reader sink service_old service = IsServed views.disk (serving service_old).key (serving service_old).limits run_limits
      (serving service_old).verifier.says (serving service_old).signer.gives held (reader_by views reader) (views.link_sink sink)
      (between_of (serving service_old)) (between_of (serving service))

  -- the links that came at a door were served, and this is kept of them
  abbrev pub ServesComingBy : Limits → ℕ → Bool → P → P → W → W → LinksKept S V K → Type 0
  ServesComingBy run_limits count failed door_old door service_old service kept = ServesComing views.disk (serving service_old).key (serving service_old).limits run_limits
      (serving service_old).verifier.says (serving service_old).signer.gives count failed (views.door door_old) (views.door door)
      (between_of (serving service_old)) (between_of (serving service)) (readers_by views kept.readers.items) (link_sinks_by views kept.sinks.items)

  -- all of them were, and a run that ends with this is that of the links
  abbrev pub ServesAllLinksBy : {B : Type 0} → (O → O → B → Run) → Limits → ℕ → P → W → Option D → B → Type 0
  ServesAllLinksBy run run_limits count door service disk back = (before after : O) → ServesAllLinks views.disk (serving service).key (serving service).limits run_limits
      (serving service).verifier.says (serving service).signer.gives count (views.door door) (between_of (serving service)) disk (run before after back)
