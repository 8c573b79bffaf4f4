-- What becomes of a file that a witness serves, by what was made for it.
use Rattle.std.proofs.Common.{◌≡◌, ℕ, false, List, [], ◌∷◌, Option, Some, None, refl}
use Rattle.std.specs.Prelude.{IfSome}
use Rattle.cesr_codes.specs.declared.key.Key.{Key}
use Rattle.shelf_log.specs.KeriDisk.Images.{DiskShown}
use Rattle.keri_outside.specs.declared.inquiry.Inquiry.{Inquiry}
use Rattle.keri_outside.specs.declared.limits.Limits.{Limits}
use Rattle.keri_outside.specs.declared.signing.Signing.{Signing}
use Rattle.lists.specs.KeriSpecs.Shown.{HasNone}
use Rattle.run_status.specs.RunOutside.Makings.{AreMakings}
use Rattle.run_status.specs.RunOutside.Shown.{OutsideShown, making}
use Rattle.run_status.specs.declared.run_outside.making.MakingKind.TheVariants.{Source, Verifier, Signer}
use Rattle.run_status.specs.RunStatus.Readers.{VerifierShown}
use Rattle.keri_outside.specs.Shown.{SinkShown, SourceShown, source_of}
use Rattle.witness_core.specs.WitnessLink.Links.{Left}
use Rattle.run_status.specs.RunRecord.Run.{Run, SignerShown}
use Rattle.witness_core.specs.WitnessRole.ServedFile.{IsServing, ServesAll, signer_of, verifier_of}

-- all three were made of the name and of the helper, over an outside that showed this before and with this sink
pub serving_all : {D : Type 0} {shown : D → DiskShown} {key : Key} {limits : Limits} {source_old : SourceShown} {verifier_old : VerifierShown} {signer_old : SignerShown}
    {old : Left D} {disk : Option D} {run : Run} → ServesAll shown key limits source_old verifier_old signer_old old disk run → (helper name : List ℕ) (inquiries : Option (List Inquiry)) (signings : Option (List Signing))
    (before : OutsideShown) (sink_before : SinkShown)
    → run.before.limits ≡ before.limits → run.sink_before ≡ sink_before → source_old ≡ source_of (before.holds name) 0
    → verifier_old ≡ verifier_of before helper inquiries → HasNone inquiries → signer_old ≡ signer_of before helper signings → HasNone signings
    → AreMakings (making Source name false ∷ making Verifier helper false ∷ making Signer helper false ∷ []) before run.after
    → IsServing shown key limits helper name old disk (record run { before = before; sink_before = sink_before })
serving_all s helper name inquiries signings before sink_before same same_sink source verifier none_inquired signer none_signed makes = record {
  reader = s.reader;
  makes = rw (s.source_is, s.verifier_is, s.signer_is) makes;
  new = s.new;
  serves = rw (s.source_is, s.verifier_is, s.signer_is) (record {
    inquiries = inquiries;
    none_inquired = none_inquired;
    signings = signings;
    none_signed = none_signed;
    serves = rw (same, same_sink, source, verifier, signer) at s.serves;
  });
  no_links = record { no_door = s.no_links.no_door; no_sinks = s.no_links.no_sinks };
  ends = record { all = s.ends.all; back = s.ends.back; bodies = s.ends.bodies; entries = s.ends.entries; status = s.ends.status; stand = s.ends.stand; reads = s.ends.reads };
}

-- what is so of each image is so of the file as it reads, where that is one
pub as_it_reads : (file : Option (List ℕ)) (images P : List ℕ → Type 0) → ((f : List ℕ) → file ≡ Some f → images f) → ((c : List ℕ) → images c → P c) → IfSome file P
as_it_reads None images P is all = tt
as_it_reads (Some f) images P is all = all f (is f refl)
