-- What is seen of a run's readers and of its sink.
use Rattle.std.specs.Prelude.{◌≡◌, ℕ, ◌⊎◌, Bool, true, List, [], ◌∷◌, option_map}
use Rattle.std.specs.declared.option.Option.{Option}
use Rattle.cesr_codes.specs.declared.digest.Digest.{Digest}
use Rattle.cesr_codes.specs.declared.key.Key.{Key}
use Rattle.cesr_codes.specs.declared.sig.Sig.{Sig}
use Rattle.keri_outside.specs.Shown.{SourceShown}
use Rattle.keri_outside.specs.declared.inquiry.Inquiry.{Inquiry}
use Rattle.journal.specs.declared.journal.refusal.Refusal.{Refusal}
use Rattle.run_status.specs.declared.run_status.close.Close.{Close}
use Rattle.run_status.specs.declared.run_status.close.Close.TheVariants.{End, Bad, ReadFault, VerifierFault, SignerFault, DiskFault, WriteFault, Malformed, LimitReached, OutOfMemory}
use Rattle.run_status.specs.declared.run_status.findings.Findings.{Findings}
use Rattle.run_status.specs.declared.run_status.reader_end.ReaderEnd.{ReaderEnd}
use Rattle.run_status.specs.RunStatus.Status.{nothing}

-- what a verifier says and what it was asked, where that is shown, and how often it has failed
pub record VerifierShown : Type 0 where
  pub says : Key → List ℕ → Sig → Option Bool
  pub inquiries : Option (List Inquiry)
  pub faults : ℕ

-- how a reader ended
pub record Reader : Type 0 where
  pub source : Option SourceShown
  pub verifier : Option VerifierShown
  pub refused : List Refusal
  pub seen : List Digest
  pub close : Close

-- what a reader's close is found to be: that of `rehearse`, which alone closes `Malformed`, has a status of its own, and where
-- there was no memory no text is owed
abbrev pub close_found : Close → Findings
close_found End = nothing
close_found (Bad bad) = record nothing { refused = true }
close_found ReadFault = record nothing { source_failed = true }
close_found VerifierFault = record nothing { verifier_failed = true }
close_found SignerFault = record nothing { signer_failed = true }
close_found DiskFault = record nothing { disk_failed = true }
close_found WriteFault = record nothing { sink_failed = true }
close_found (Malformed place) = nothing
close_found LimitReached = record nothing { limit_reached = true }
close_found OutOfMemory = nothing

-- a reader closed so
abbrev pub HasClose : Close → List Reader → Type 0
HasClose close [] = ⊥
HasClose close (reader ∷ readers) = (reader.close ≡ close) ⊎ HasClose close readers

module _ {S V : Type 0} (left : S → Option (List ℕ)) (faults : S → ℕ) (says : V → Key → List ℕ → Sig → Option Bool) (inquiries : V → Option (List Inquiry)) (verifier_faults : V → ℕ) where
  abbrev pub source_seen : S → SourceShown
  source_seen source = record { left = left source; faults = faults source }

  abbrev pub verifier_seen : V → VerifierShown
  verifier_seen verifier = record { says = says verifier; inquiries = inquiries verifier; faults = verifier_faults verifier }

  abbrev pub reader_seen : ReaderEnd S V → Reader
  reader_seen end = record {
    source = option_map source_seen end.source;
    verifier = option_map verifier_seen end.verifier;
    refused = end.refused.items;
    seen = end.seen;
    close = end.close;
  }
