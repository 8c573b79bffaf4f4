-- The report of a journal and its readers.
use Rattle.std.specs.Prelude.{◌≡◌, ℕ, ◌+◌, Bool, List, [], ◌∷◌, ◌++◌, flat_map}
use Rattle.journal.specs.declared.journal.refusal.Refusal.{Refusal}
use Rattle.report_lines.specs.Lines.{refused_text, malformed_text, read_fault_text, verifier_fault_text, full_text, memory_text}
use Rattle.validator_core.specs.ValidatorCore.View.{CoreView}
use Rattle.report_lines.specs.Report.{IsStandingText}
use Rattle.run_status.specs.declared.run_status.close.Close.{Close}
use Rattle.run_status.specs.RunStatus.Readers.{Reader}
use Rattle.run_status.specs.declared.run_status.close.Close.TheVariants.{End, Bad, ReadFault, VerifierFault, SignerFault, DiskFault, WriteFault, Malformed, LimitReached, OutOfMemory}

-- the lines of the messages that a reader refused
abbrev pub refused_lines : ℕ → List Refusal → List ℕ
refused_lines reader refused = flat_map (λ r. refused_text reader r.place r.reason) refused

-- the line of a stream that is refused
abbrev pub malformed_line : ℕ → Close → List ℕ
malformed_line reader (Bad bad) = malformed_text reader bad
malformed_line reader End = []
malformed_line reader ReadFault = []
malformed_line reader VerifierFault = []
malformed_line reader LimitReached = []
malformed_line reader SignerFault = []
malformed_line reader DiskFault = []
malformed_line reader WriteFault = []
malformed_line reader (Malformed place) = []
malformed_line reader OutOfMemory = []

-- the line of a reader that a fault, a limit or want of memory ended
abbrev pub stopped_line : ℕ → Close → List ℕ
stopped_line reader ReadFault = read_fault_text reader
stopped_line reader VerifierFault = verifier_fault_text reader
stopped_line reader LimitReached = full_text reader
stopped_line reader SignerFault = []
stopped_line reader DiskFault = []
stopped_line reader WriteFault = []
stopped_line reader (Malformed place) = []
stopped_line reader OutOfMemory = memory_text reader
stopped_line reader End = []
stopped_line reader (Bad bad) = []

-- of each reader, the first of them having this number, the lines of the messages that it refused, and of its stream where that is
-- refused
abbrev pub refusal_lines : ℕ → List Reader → List ℕ
refusal_lines number [] = []
refusal_lines number (reader ∷ readers) =
    (refused_lines number reader.refused ++ malformed_line number reader.close) ++ refusal_lines (number + 1) readers

-- and of each that a fault, a limit or want of memory ended the line of that
abbrev pub stopped_lines : ℕ → List Reader → List ℕ
stopped_lines number [] = []
stopped_lines number (reader ∷ readers) = stopped_line number reader.close ++ stopped_lines (number + 1) readers

-- the text: what the readers refused, how the core stands, and what ended the readers; and whether there are conflicts
pub record Reports (core : CoreView) (readers : List Reader) (text : List ℕ) (has_conflicts : Bool) : Type 0 where
  pub standing : List ℕ
  pub stands : IsStandingText core standing has_conflicts
  pub text_is : text ≡ refusal_lines 0 readers ++ (standing ++ stopped_lines 0 readers)
