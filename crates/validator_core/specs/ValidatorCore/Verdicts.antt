-- What asking a verifier the open questions does.
use Rattle.std.specs.Prelude.{◌≡◌, ℕ, ◌≤◌, Bool, List, [], ◌∷◌, ◌++◌, map, flat_map, take, Option, Some, IfSome, All, Result, slice_get}
use Rattle.lists.specs.KeriSpecs.Shown.{Puts, after}
use Rattle.keri_outside.specs.Asked.{inquiry}
use Rattle.keri_outside.specs.declared.inquiry.Inquiry.{Inquiry}
use Rattle.cesr_codes.specs.declared.key.Key.{Key}
use Rattle.cesr_codes.specs.declared.sig.Sig.{Sig}
use Rattle.journal.specs.declared.journal.question.Question.{Question}
use Rattle.journal.specs.Journal.History.{Told, Triple, took, heard}
use Rattle.journal.specs.Journal.Journals.{Names}
use Rattle.journal.specs.declared.journal.body.Body.{Body}
use Rattle.journal.specs.Journal.Questions.{next_question}
use Rattle.validator_core.specs.ValidatorCore.View.{CoreView, Follows, base_of, told_of}
use Rattle.validator_core.specs.declared.validator_core.asked_verdicts.VerdictFault.{VerdictFault}
use Rattle.validator_core.specs.declared.validator_core.asked_verdicts.VerdictFault.TheVariants.{VerifierFault, OutOfMemory}
use Rattle.lists.specs.KeriSpecs.Causes.{Rose}

-- the question is open
abbrev pub IsOpen : CoreView → Question → Type 0
IsOpen core q = Names core.held (Some q) (next_question core.mode (base_of core) (told_of core) 0)

-- the verdict is what is said of the question's key, body and signature, where its body is held
abbrev pub IsSaid : (Key → List ℕ → Sig → Option Bool) → CoreView → Question → Bool → Type 0
IsSaid says core q verdict = (b : Body) → slice_get core.held q.body ≡ Some b → IfSome (says q.key b.bytes q.sig) (λ said. verdict ≡ said)

-- the entry is the first reader's verdict, and what is said of its key, body and signature
abbrev pub IsVerdict : (Key → List ℕ → Sig → Option Bool) → Told → Type 0
IsVerdict says (took reader b claims) = ⊥
IsVerdict says (heard reader b key sig verdict) = (reader ≡ 0) × IfSome (says key b.bytes sig) (λ said. verdict ≡ said)

-- what was asked for the verdict of an entry
abbrev pub inquiry_in : Told → List Inquiry
inquiry_in (took reader b claims) = []
inquiry_in (heard reader b key sig verdict) = inquiry key b.bytes sig ∷ []

-- what was asked for the verdicts that were heard, in order
abbrev pub inquiries_in : List Told → List Inquiry
inquiries_in told = flat_map inquiry_in told

-- what is asked of a triple
abbrev pub inquiry_on : Triple → Inquiry
inquiry_on t = inquiry t.key t.body t.sig

-- these are the inquiries for the verdicts that were heard, in order, and maybe that of the first question without a verdict
abbrev pub IsHeardAndOpen : List Told → List Triple → List Inquiry → Type 0
IsHeardAndOpen told unheard all = (n : ℕ) × (n ≤ 1) × (all ≡ inquiries_in told ++ take n (map inquiry_on unheard))

-- such inquiries came behind those of before, where they are told
abbrev pub AsksOpen : Option (List Inquiry) → Option (List Inquiry) → List Told → List Triple → Type 0
AsksOpen before now told unheard = (more : List Inquiry) × IsHeardAndOpen told unheard more × (now ≡ after before more)

-- verdicts came behind what was told, and nothing else, and nothing else was asked but maybe the first open question
pub record Asks (says : Key → List ℕ → Sig → Option Bool) (before now : Option (List Inquiry)) (old new : CoreView) (unheard : List Triple) : Type 0 where
  pub verdicts : List Told
  pub behind : told_of new ≡ told_of old ++ verdicts
  pub each : All (IsVerdict says) verdicts
  pub asked : AsksOpen before now verdicts unheard
  pub follows : Follows old new

-- what the verifier was asked about the question, where its body is held; where it failed, that or nothing
abbrev pub AsksAbout : {T E : Type 0} → Option (List Inquiry) → Option (List Inquiry) → CoreView → Question → Result T E → Type 0
AsksAbout before now core q result = (b : Body) → slice_get core.held q.body ≡ Some b → Puts before now result (inquiry q.key b.bytes q.sig ∷ [])

-- the first reader's verdict on the question came behind what was told
pub record Notes (old : CoreView) (q : Question) (verdict : Bool) (new : CoreView) : Type 0 where
  pub body : Body
  pub is_held : slice_get old.held q.body ≡ Some body
  pub behind : told_of new ≡ told_of old ++ heard 0 body q.key q.sig verdict ∷ []
  pub follows : Follows old new

-- a verifier's count of faults, before and after: it rose where the verifier failed, and else is as it was
abbrev pub IsFaultOf : ℕ → ℕ → VerdictFault → Type 0
IsFaultOf before now VerifierFault = Rose before now
IsFaultOf before now OutOfMemory = now ≡ before
