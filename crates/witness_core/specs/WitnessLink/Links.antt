-- What is seen of a witness, of what serves links by it, and of all that serves one.
use Rattle.std.specs.Prelude.{ℕ, Bool, List, Option}
use Rattle.cesr_codes.specs.declared.digest.Digest.{Digest}
use Rattle.cesr_codes.specs.declared.key.Key.{Key}
use Rattle.cesr_codes.specs.declared.sig.Sig.{Sig}
use Rattle.journal.specs.declared.journal.refusal.Refusal.{Refusal}
use Rattle.shelf_log.specs.KeriDisk.Images.{DiskShown}
use Rattle.keri_outside.specs.declared.inquiry.Inquiry.{Inquiry}
use Rattle.keri_outside.specs.declared.limits.Limits.{Limits}
use Rattle.keri_outside.specs.declared.signing.Signing.{Signing}
use Rattle.run_status.specs.RunRecord.Run.{SignerShown}
use Rattle.run_status.specs.RunStatus.Readers.{VerifierShown}
use Rattle.keri_outside.specs.Shown.{SinkShown, SourceShown}
use Rattle.validator_core.specs.ValidatorCore.View.{CoreView}
use Rattle.witness_core.specs.declared.witness_link.notes.Notes.{Notes}

-- a witness's core, and the list of its shelf
pub record Standing : Type 0 where
  pub core : CoreView
  pub list : List (List ℕ)

-- what is seen of a witness
pub record WitnessShown : Type 1 where
  pub key : Key
  pub limits : Limits
  pub core : CoreView
  pub list : List (List ℕ)
  pub disk : DiskShown
  pub broken : Bool

abbrev pub standing_of : WitnessShown → Standing
standing_of witness = record { core = witness.core; list = witness.list }

-- what the witness goes by in all its calls: what its verifier says and what its signer gives, where they show it, its key and its
-- limits
pub record Terms : Type 0 where
  pub says : Key → List ℕ → Sig → Option Bool
  pub gives : Key → List ℕ → Option Sig
  pub key : Key
  pub limits : Limits

-- how often the disk, the verifier and the signer have failed
pub record Counts : Type 0 where
  pub disk : ℕ
  pub verifier : ℕ
  pub signer : ℕ

abbrev pub counts : ℕ → ℕ → ℕ → Counts
counts disk verifier signer = record { disk = disk; verifier = verifier; signer = signer }

-- What is seen of a witness, of the verifier, the signer and the sink that it has at a link, with how often each has failed, and
-- what the verifier and the signer were asked, in order, where they show it. And what was noted of messages: those that were refused,
-- and the digests of the events that were seen in place of others.
pub record LinkShown : Type 1 where
  pub witness : WitnessShown
  pub says : Key → List ℕ → Sig → Option Bool
  pub inquiries : Option (List Inquiry)
  pub verifier_faults : ℕ
  pub gives : Key → List ℕ → Option Sig
  pub signings : Option (List Signing)
  pub signer_faults : ℕ
  pub written : Option (List ℕ)
  pub sink_faults : ℕ
  pub refused : List Refusal
  pub seen : List Digest

-- what is seen of a witness, and of the verifier and the signer that it has
pub record ServiceShown : Type 1 where
  pub witness : WitnessShown
  pub verifier : VerifierShown
  pub signer : SignerShown

abbrev pub shown_of_link : ServiceShown → SinkShown → List Refusal → List Digest → LinkShown
shown_of_link service sink refused seen = record {
  witness = service.witness;
  says = service.verifier.says;
  inquiries = service.verifier.inquiries;
  verifier_faults = service.verifier.faults;
  gives = service.signer.gives;
  signings = service.signer.signings;
  signer_faults = service.signer.faults;
  written = sink.written;
  sink_faults = sink.faults;
  refused = refused;
  seen = seen;
}

-- with what is noted
abbrev pub shown_noting : ServiceShown → SinkShown → Notes → LinkShown
shown_noting service sink notes = shown_of_link service sink notes.refused.items notes.seen.items

abbrev pub terms_with : (Key → List ℕ → Sig → Option Bool) → (Key → List ℕ → Option Sig) → WitnessShown → Terms
terms_with says gives witness = record { says = says; gives = gives; key = witness.key; limits = witness.limits }

abbrev pub terms_at : ServiceShown → Terms
terms_at service = terms_with service.verifier.says service.signer.gives service.witness

abbrev pub counts_at : ServiceShown → Counts
counts_at service = counts service.witness.disk.faults service.verifier.faults service.signer.faults

abbrev pub terms_of : LinkShown → Terms
terms_of link = terms_with link.says link.gives link.witness

abbrev pub counts_of : LinkShown → Counts
counts_of link = counts link.witness.disk.faults link.verifier_faults link.signer_faults

-- what a verifier shows
abbrev pub verifier_shown : {V : Type 0} → (V → Key → List ℕ → Sig → Option Bool) → (V → Option (List Inquiry)) → (V → ℕ) → V → VerifierShown
verifier_shown says inquiries faults verifier = record { says = says verifier; inquiries = inquiries verifier; faults = faults verifier }

-- what a witness is at a moment: its core, the list of its shelf, whether it is broken, and its disk
pub record Left (D : Type 0) : Type 0 where
  pub core : CoreView
  pub list : List (List ℕ)
  pub broken : Bool
  pub disk : D

-- what is seen of it
abbrev pub seen_as : {D : Type 0} → (D → DiskShown) → Key → Limits → Left D → WitnessShown
seen_as shown key limits left = record { key = key; limits = limits; core = left.core; list = left.list; disk = shown left.disk; broken = left.broken }

-- what serves links at a moment: a witness as it is, with its key and its limits, and what its verifier and its signer show
pub record Serving (D : Type 0) : Type 0 where
  pub key : Key
  pub limits : Limits
  pub left : Left D
  pub verifier : VerifierShown
  pub signer : SignerShown

-- what is seen of these
abbrev pub seen_by : {D : Type 0} → (D → DiskShown) → Serving D → ServiceShown
seen_by shown serving = record { witness = seen_as shown serving.key serving.limits serving.left; verifier = serving.verifier; signer = serving.signer }
