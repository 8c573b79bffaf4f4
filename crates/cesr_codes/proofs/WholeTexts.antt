-- Whole texts of primitives.
use Rattle.std.proofs.Common.{◌≡◌, ◌≢◌, ℕ, List, [], ◌++◌, length, Result, Ok, Err, sym, ap, ◌∙◌, append-nil}
use Rattle.cesr_codes.specs.declared.code_fault.CodeFault.{CodeFault}

module _ {V : Type 0} (spelling : V → List ℕ) (IsValid : V → Type 0) (text : List ℕ) where
  -- what a reader answers that reads each spelling at the front
  abbrev ReadsEach : Result (V × ℕ) CodeFault → Type 0
  ReadsEach r = (v : V) (rest : List ℕ) → IsValid v → text ≡ spelling v ++ rest → r ≡ Ok (v, length (spelling v))

  -- where it refuses, the text is none
  pub refused : (fault : CodeFault) → ReadsEach (Err fault) → (v : V) → IsValid v → text ≢ spelling v
  refused fault reads v is e = let no = reads v [] is (e ∙ sym (append-nil (spelling v))) in cc

  -- where more stands behind what it reads, the text is none
  pub longer : (found : V × ℕ) → ReadsEach (Ok found) → found.1 ≢ length text → (v : V) → IsValid v → text ≢ spelling v
  longer found reads more v is e =
      let same = reads v [] is (e ∙ sym (append-nil (spelling v))) in
      let count : found.1 ≡ length (spelling v) = cc in
      more (count ∙ sym (ap length e))

  -- what it reads is the one that is spelled so
  pub the_one : (found : V × ℕ) → ReadsEach (Ok found) → (v : V) → IsValid v → text ≡ spelling v → found.0 ≡ v
  the_one found reads v is e = let same = reads v [] is (e ∙ sym (append-nil (spelling v))) in cc
