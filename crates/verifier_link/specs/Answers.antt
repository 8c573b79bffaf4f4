-- Answers of a helper and how they are spelled (the helper's protocol), and those of the rehearsal.
use Rattle.std.specs.Prelude.{◌≡◌, ℕ, Bool, true, false, List, [], ◌∷◌}
use Rattle.cesr_codes.specs.declared.sig.Sig.{Sig}
use Rattle.cesr_codes.specs.Spelling.{sig_text, IsSig}
use Rattle.keri_outside.specs.Rehearsal.{rehearsed, is_rehearsed}
use Rattle.verifier_link.specs.declared.wanted.Wanted.{Wanted}
use Rattle.verifier_link.specs.declared.wanted.Wanted.TheVariants.{Verdict, Signature}
use Rattle.verifier_link.specs.Questions.{Question}

-- a verdict is `Y` or `N`
abbrev pub verdict_text : Bool → List ℕ
verdict_text true = 89 ∷ []
verdict_text false = 78 ∷ []

-- the bytes say this verdict, or are this signature
abbrev pub SaysVerdict : Bool → List ℕ → Type 0
SaysVerdict verdict bytes = bytes ≡ verdict_text verdict

abbrev pub SaysSig : Sig → List ℕ → Type 0
SaysSig sig bytes = IsSig sig × (bytes ≡ sig_text sig)

-- so many bytes are due for an answer
abbrev pub answer_size : Wanted → ℕ
answer_size (Verdict key sig) = 1
answer_size (Signature key) = 88

-- what the rehearsal answers about a body
abbrev pub rehearsal_text : Wanted → List ℕ → List ℕ
rehearsal_text (Verdict key sig) body = verdict_text (is_rehearsed key body sig)
rehearsal_text (Signature key) body = sig_text (rehearsed key body)

abbrev pub answer_text : Question → List ℕ
answer_text question = rehearsal_text question.wanted question.body
