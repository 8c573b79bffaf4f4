-- Questions to a helper and how they are spelled (the helper's protocol).
use Rattle.std.specs.Prelude.{ℕ, ◌+◌, ◌≤◌, nat_lt, if◌then◌else◌, List, ◌∷◌, ◌++◌, length, map, take}
use Rattle.lists.specs.KeriSpecs.Base64.{digits_in}
use Rattle.cesr_codes.specs.declared.key.Key.{Key}
use Rattle.cesr_codes.specs.declared.sig.Sig.{Sig}
use Rattle.cesr_codes.specs.Spelling.{key_text, sig_text, IsKey, IsSig}
use Rattle.verifier_link.specs.declared.wanted.Wanted.{Wanted}
use Rattle.verifier_link.specs.declared.wanted.Wanted.TheVariants.{Verdict, Signature}

-- the lower-case hexadecimal digits: `0` to `9`, and `a` to `f`
abbrev pub hex_character : ℕ → ℕ
hex_character digit = if nat_lt digit 10 then 48 + digit else 87 + digit

-- a length is written as 8 digits
abbrev pub length_text : ℕ → List ℕ
length_text n = map hex_character (digits_in 16 8 n)

-- what stands before the length: `V`, the key and the signature, or `S` and the key
abbrev pub wanted_text : Wanted → List ℕ
wanted_text (Verdict key sig) = 86 ∷ (key_text key ++ sig_text sig)
wanted_text (Signature key) = 83 ∷ key_text key

-- keys and signatures have their raw bytes
abbrev pub IsWanted : Wanted → Type 0
IsWanted (Verdict key sig) = IsKey key × IsSig sig
IsWanted (Signature key) = IsKey key

-- what is wanted, and of which body
pub record Question : Type 0 where
  pub wanted : Wanted
  pub body : List ℕ

abbrev pub question : Wanted → List ℕ → Question
question wanted body = record { wanted = wanted; body = body }

-- the question for a verdict, and that for a signature
abbrev pub verdict_question : Key → List ℕ → Sig → Question
verdict_question key body sig = question (Verdict key sig) body

abbrev pub signing_question : Key → List ℕ → Question
signing_question key body = question (Signature key) body

abbrev pub question_text : Question → List ℕ
question_text asked = wanted_text asked.wanted ++ (length_text (length asked.body) ++ asked.body)

-- a body has at most 65,535 bytes
pub record IsQuestion (asked : Question) : Type 0 where
  pub wanted : IsWanted asked.wanted
  pub short : length asked.body ≤ 65535

-- a question is found, which asks what is wanted of the front of the buffer, and its text is such
abbrev pub FindsQuestion : Wanted × ℕ → List ℕ → (List ℕ → Type 0) → Type 0
FindsQuestion found buffer IsSuch = let asked = question found.0 (take found.1 buffer) in
    IsQuestion asked × (found.1 ≤ 65535) × IsSuch (question_text asked)
