-- What the verifiers of readers were asked.
use Rattle.std.specs.Prelude.{List, Option, Some, None}
use Rattle.journal.specs.declared.journal.mode.Mode.{Mode}
use Rattle.journal.specs.Journal.History.{Told}
use Rattle.run_status.specs.RunStatus.Readers.{Reader, VerifierShown}
use Rattle.reader_hub.specs.SharedReader.Asks.{AsksOnly}
use Rattle.reader_hub.specs.ReaderThreads.Given.{Given}
use Rattle.reader_hub.specs.ReaderThreads.Starts.{EachPair}

-- where there is a verifier, it is there still, and was asked only for verdicts that are told, and on questions that are open
abbrev pub AsksOnlyIfThere : Mode → List Told → Option VerifierShown → Option VerifierShown → Type 0
AsksOnlyIfThere mode told None None = Unit {0}
AsksOnlyIfThere mode told None (Some new) = ⊥
AsksOnlyIfThere mode told (Some old) None = ⊥
AsksOnlyIfThere mode told (Some old) (Some new) = AsksOnly old.inquiries new.inquiries mode told

-- and so each that was given to one of these readers
abbrev pub EachAsksOnly : Mode → List Told → List Given → List Reader → Type 0
EachAsksOnly mode told given readers = EachPair (λ (g : Given) (r : Reader). AsksOnlyIfThere mode told g.verifier r.verifier) given readers

-- and each that these readers had before
abbrev pub EachGoesOn : Mode → List Told → List Reader → List Reader → Type 0
EachGoesOn mode told old new = EachPair (λ (r s : Reader). AsksOnlyIfThere mode told r.verifier s.verifier) old new
