-- What a reader is given and how it ends, as far as its source and its verifier tell.
use Rattle.std.specs.Prelude.{ℕ, Bool, List, [], Option, Some, None, option_map}
use Rattle.cesr_codes.specs.declared.key.Key.{Key}
use Rattle.cesr_codes.specs.declared.sig.Sig.{Sig}
use Rattle.journal.specs.Journal.Feeds as feeds
use Rattle.keri_outside.specs.declared.inquiry.Inquiry.{Inquiry}
use Rattle.run_status.specs.RunStatus.Readers.{Reader, VerifierShown, source_seen, verifier_seen}
use Rattle.keri_outside.specs.Shown.{SourceShown}
use Rattle.run_status.specs.declared.run_status.close.Close.{Close}
use Rattle.reader_hub.specs.SharedReader.Asks.{Says}
use Rattle.reader_hub.specs.SharedReader.ReadsOne.{is_stopped}
use Rattle.reader_hub.specs.declared.reader_threads.providers.Providers.{Providers}

-- the source and the verifier, as far as they could be made
pub record Given : Type 0 where
  pub source : Option SourceShown
  pub verifier : Option VerifierShown

-- of what a reader is given
abbrev pub given_by : {S V : Type 0} → (S → Option (List ℕ)) → (S → ℕ) → (V → Key → List ℕ → Sig → Option Bool) → (V → Option (List Inquiry))
    → (V → ℕ) → Providers S V → Given
given_by left faults says inquiries verifier_faults providers = record {
  source = option_map (source_seen left faults says inquiries verifier_faults) providers.source;
  verifier = option_map (verifier_seen left faults says inquiries verifier_faults) providers.verifier;
}

-- what the verifier says, where there is one
abbrev pub said_by : Option VerifierShown → Says
said_by None = λ key body sig. None
said_by (Some verifier) = verifier.says

-- the end of a reader that read these bytes
abbrev pub end_of : List ℕ → Reader → feeds.End
end_of bytes reader = record { bytes = Some bytes; says = said_by reader.verifier; refused = reader.refused; stopped = is_stopped reader.close }

-- a reader that read nothing, and ends so
abbrev pub unread : Option SourceShown → Option VerifierShown → Close → Reader
unread source verifier close = record { source = source; verifier = verifier; refused = []; seen = []; close = close }
