-- What becomes of a file that a witness is to serve.
use Rattle.std.specs.Prelude.{◌≡◌, ℕ, Bool, false, true, List, [], ◌∷◌, map, is_none, IfSome, if◌then◌else◌}
use Rattle.std.specs.List.{list_any}
use Rattle.std.specs.declared.option.Option.{Option}
use Rattle.std.specs.declared.option.Option.TheVariants.{None, Some}
use Rattle.cesr_codes.specs.declared.digest.Digest.{Digest}
use Rattle.cesr_codes.specs.declared.key.Key.{Key}
use Rattle.journal.specs.declared.journal.refusal.Refusal.{Refusal}
use Rattle.shelf_log.specs.KeriDisk.Images.{DiskShown}
use Rattle.keri_outside.specs.declared.inquiry.Inquiry.{Inquiry}
use Rattle.keri_outside.specs.declared.limits.Limits.{Limits}
use Rattle.keri_outside.specs.declared.signing.Signing.{Signing}
use Rattle.lists.specs.KeriSpecs.Shown.{HasNone}
use Rattle.run_status.specs.RunOutside.Makings.{AreMakings}
use Rattle.run_status.specs.RunOutside.Shown.{OutsideShown, making}
use Rattle.run_status.specs.declared.run_outside.making.MakingKind.{MakingKind}
use Rattle.run_status.specs.declared.run_outside.making.MakingKind.TheVariants.{Source as SourceKind, Verifier as VerifierKind, Signer as SignerKind}
use Rattle.run_status.specs.declared.run_status.besides.Besides.{Besides}
use Rattle.run_status.specs.declared.run_status.close.Close.{Close}
use Rattle.run_status.specs.declared.run_status.reader_end.ReaderEnd.{ReaderEnd}
use Rattle.run_status.specs.declared.run_status.close.Close.TheVariants.{ReadFault, VerifierFault, SignerFault}
use Rattle.run_status.specs.RunStatus.Readers.{Reader, VerifierShown}
use Rattle.keri_outside.specs.Shown.{SinkShown, SourceShown, source_of}
use Rattle.run_status.specs.RunStatus.RunEnds.{found}
use Rattle.run_status.specs.RunStatus.Status.{nothing_besides, status_of}
use Rattle.shelf_log.specs.ShelfLog.Format.{Holds}
use Rattle.shelf_log.specs.ShelfLog.OnDisk.{AllHold}
use Rattle.shelf_log.specs.declared.shelf_log.version.Version.TheVariants.{Two}
use Rattle.witness_core.specs.declared.witness_link.link_end.LinkEnd.{LinkEnd}
use Rattle.witness_core.specs.WitnessLink.Links.{Left, LinkShown, Serving, seen_as, seen_by, shown_of_link}
use Rattle.witness_core.specs.WitnessLink.Served.{ServesLink, ServesLinkTo}
use Rattle.run_status.specs.RunRecord.Run.{HasNoLinks, Run, SignerShown, is_out}
use Rattle.witness_core.specs.WitnessRole.Views.{Views, readers_by}

-- the status of a run that owes nothing more: by its readers, and by what was found besides
abbrev pub status_closing : Besides → List Reader → ℕ
status_closing besides readers = if list_any (λ r. is_out r.close) readers then 10 else status_of (found besides readers false)

-- What is read, of this kind and name, and the verifier and the signer of a helper, are made in this order, up to the first that fails.
abbrev pub MakesServing : {S V G : Type 0} → MakingKind → List ℕ → List ℕ → Option S → Option V → Option G → OutsideShown → OutsideShown → Type 0
MakesServing kind name helper None verifier signer before after =
    (is_none verifier ≡ true) × (is_none signer ≡ true) × AreMakings (making kind name true ∷ []) before after
MakesServing kind name helper (Some first) None signer before after =
    (is_none signer ≡ true) × AreMakings (making kind name false ∷ making VerifierKind helper true ∷ []) before after
MakesServing kind name helper (Some first) (Some verifier) signer before after =
    AreMakings (making kind name false ∷ making VerifierKind helper false ∷ making SignerKind helper (is_none signer) ∷ []) before after

-- The run ends with these readers, and with this found besides, and hands back the disk and the journal of the witness as it is
-- left. Nothing more is owed. Unless the witness is broken, each image of the disk stands for its list, and so does the file as it
-- reads, where the disk shows it.
pub record EndsWith {D : Type 0} (shown : D → DiskShown) (disk : Option D) (readers : List Reader) (besides : Besides) (new : Left D) (run : Run) : Type 0 where
  pub all : run.readers ≡ readers
  pub back : disk ≡ Some new.disk
  pub bodies : run.journal.bodies ≡ map (λ b. b.bytes) new.core.held
  pub entries : run.journal.entries ≡ new.core.entries
  pub status : run.status ≡ status_closing besides run.readers
  pub stand : new.broken ≡ false → AllHold (shown new.disk) new.list
  pub reads : new.broken ≡ false → IfSome (shown new.disk).file (λ file. Holds Two file new.list)

-- One of the makings failed: nothing is read, and the witness is as it was. A verifier that was made was asked nothing, and never failed.
pub record ServesNone {D : Type 0} (held : Option (List ℕ)) (at : Close) (reader : Reader) (old new : Left D) (run : Run) : Type 0 where
  pub close : reader.close ≡ at
  pub none_refused : reader.refused ≡ []
  pub none_seen : reader.seen ≡ []
  pub unread : IfSome reader.source (λ s. s ≡ source_of held 0)
  pub unasked : IfSome reader.verifier (λ v. HasNone v.inquiries × (v.faults ≡ 0))
  pub same : new ≡ old
  pub same_sink : run.sink_after ≡ run.sink_before

-- a verifier and a signer of a helper that never failed, and were asked these
abbrev pub verifier_of : OutsideShown → List ℕ → Option (List Inquiry) → VerifierShown
verifier_of before helper inquiries = record { says = before.says helper; inquiries = inquiries; faults = 0 }

abbrev pub signer_of : OutsideShown → List ℕ → Option (List Signing) → SignerShown
signer_of before helper signings = record { gives = before.gives helper; signings = signings; faults = 0 }

module _ {D : Type 0} (shown : D → DiskShown) (key : Key) (limits : Limits) where
  -- what is seen of a witness and of a verifier, a signer and a sink, and what was noted
  abbrev pub at_link : Left D → VerifierShown → SignerShown → SinkShown → List Refusal → List Digest → LinkShown
  at_link left verifier signer sink refused seen = shown_of_link (record { witness = seen_as shown key limits left; verifier = verifier; signer = signer }) sink refused seen

  -- the link that a run has with its source, its verifier and its signer, which these were before, and the sink
  abbrev pub ServesIts : Run → SourceShown → VerifierShown → SignerShown → Left D → SourceShown → VerifierShown → SignerShown → Reader → Left D → Type 0
  ServesIts run source_old verifier_old signer_old old source verifier signer reader new =
      ServesLink run.before.limits source_old (source_of source.left source.faults)
      (at_link old verifier_old signer_old run.sink_before [] [])
      (at_link new verifier signer run.sink_after reader.refused reader.seen) reader.close

  -- all three were made of the name and of the helper, and serve the witness as a link; the verifier and the signer were asked nothing
  -- before, where they show it, and none of the three had failed
  pub record ServesMade (helper name : List ℕ) (old : Left D) (source : SourceShown) (verifier : VerifierShown) (signer : SignerShown) (reader : Reader) (new : Left D) (run : Run) : Type 0 where
    pub inquiries : Option (List Inquiry)
    pub none_inquired : HasNone inquiries
    pub signings : Option (List Signing)
    pub none_signed : HasNone signings
    pub serves : ServesIts run (source_of (run.before.holds name) 0) (verifier_of run.before helper inquiries) (signer_of run.before helper signings) old source verifier signer reader new

  -- what was made serves the witness as a link, where it was all made
  abbrev pub ServesBy : List ℕ → List ℕ → Left D → Reader → Option SourceShown → Option VerifierShown → Option SignerShown → Left D → Run → Type 0
  ServesBy helper name old reader None verifier signer new run = ServesNone (run.before.holds name) ReadFault reader old new run
  ServesBy helper name old reader (Some source) None signer new run = ServesNone (run.before.holds name) VerifierFault reader old new run
  ServesBy helper name old reader (Some source) (Some verifier) None new run = ServesNone (run.before.holds name) SignerFault reader old new run
  ServesBy helper name old reader (Some source) (Some verifier) (Some signer) new run = ServesMade helper name old source verifier signer reader new run

  -- What is made of a name and of a helper serves the witness, and the run ends.
  pub record IsServing (helper name : List ℕ) (old : Left D) (disk : Option D) (run : Run) : Type 0 where
    pub reader : Reader
    pub makes : MakesServing SourceKind name helper reader.source reader.verifier run.signer run.before run.after
    pub new : Left D
    pub serves : ServesBy helper name old reader reader.source reader.verifier run.signer new run
    pub no_links : HasNoLinks run
    pub ends : EndsWith shown disk (reader ∷ []) nothing_besides new run

  -- all three were made, and were these before, and the run ends
  pub record ServesAll (source_old : SourceShown) (verifier_old : VerifierShown) (signer_old : SignerShown) (old : Left D) (disk : Option D) (run : Run) : Type 0 where
    pub source : SourceShown
    pub verifier : VerifierShown
    pub signer : SignerShown
    pub reader : Reader
    pub new : Left D
    pub source_is : reader.source ≡ Some source
    pub verifier_is : reader.verifier ≡ Some verifier
    pub signer_is : run.signer ≡ Some signer
    pub serves : ServesIts run source_old verifier_old signer_old old source verifier signer reader new
    pub no_links : HasNoLinks run
    pub ends : EndsWith shown disk (reader ∷ []) nothing_besides new run

-- the run ends with these readers, and with a door that failed or didn't
abbrev pub EndsBy : {O S V G D P K : Type 0} → Views O S V G D P K → Option D → List (ReaderEnd S V) → Bool → Left D → Run → Type 0
EndsBy views disk readers door_failed left run = EndsWith views.disk disk (readers_by views readers) (record nothing_besides { door_failed = door_failed }) left run

module _ {O S V G D P K W : Type 0} (views : Views O S V G D P K) (serving : W → Serving D) where
  -- a link was served over a source and the sink of the outside
  abbrev pub ServesOver : Limits → S → S → O → O → W → W → LinkEnd → Type 0
  ServesOver limits source_old source_new outside_old outside_new old new end = ServesLinkTo limits (views.source source_old) (views.source source_new)
      (seen_by views.disk (serving old)) (seen_by views.disk (serving new)) (views.sink outside_old) (views.sink outside_new) end

  -- what serves links serves the source as a link, and the run ends
  abbrev pub ServesAllBy : S → W → Option D → Run → Type 0
  ServesAllBy source service disk run = ServesAll views.disk (serving service).key (serving service).limits (views.source source)
      (serving service).verifier (serving service).signer (serving service).left disk run
