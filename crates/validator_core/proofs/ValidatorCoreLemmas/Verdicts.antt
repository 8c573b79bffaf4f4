-- Verdicts are given to open questions.
use Rattle.std.proofs.Common.{◌≡◌, ℕ, Bool, true, false, not, ◌&&◌, List, [], ◌∷◌, ◌++◌, sym, ◌∙◌, ap, inl, inr}
use Rattle.std.specs.List.{list_any}
use Rattle.std.proofs.lemmas.Bool.{and_from, cases_Bool}
use Rattle.cesr_codes.specs.declared.key.Key.{Key}
use Rattle.cesr_codes.specs.declared.sig.Sig.{Sig}
use Rattle.journal.specs.declared.journal.body.Body.{Body}
use Rattle.journal.specs.declared.journal.claim.Claim.{Claim}
use Rattle.journal.specs.declared.journal.mode.Mode.{Mode}
use Rattle.journal.specs.declared.journal.question.Noted.TheVariants.{New, Known, Unasked}
use Rattle.journal.specs.Journal.History.{Told, took, heard, Triple, same_triple, has_verdict}
use Rattle.journal.specs.Journal.Questions.{IsRegular, noted, questions, raised}
use Rattle.journal.proofs.JournalLemmas.Keeping.{split_push}
use Rattle.journal.proofs.JournalLemmas.Places.{any_at, found_at}
use Rattle.journal.proofs.JournalLemmas.Same.{same_triple_is}
use Rattle.claim_table.proofs.CoreLawsLemmas.Noted.{any-when}
use Rattle.claim_table.specs.CoreLaws.ClaimRows.{triple_on}

module _ (mode : Mode) (base : List Body) (told : List Told) where
  -- one that is raised and has no verdict is an open question
  pub open_question : (x : Triple) → list_any (same_triple x) (raised mode base told) ≡ true → has_verdict told x ≡ false → list_any (same_triple x) (questions mode base told) ≡ true
  unfolding questions
  open_question x up silent =
      let at = found_at (same_triple x) (raised mode base told) up in
      let same : x ≡ at.1 = same_triple_is x at.1 at.3 in
      let quiet : not (has_verdict told at.1) ≡ true = ap (λ y. not (has_verdict told y)) (sym same) ∙ ap not silent in
      any-when (same_triple x) (λ y. not (has_verdict told y)) (raised mode base told)
      ∙ any_at (λ y. not (has_verdict told y) && same_triple x y) (raised mode base told) at.0 at.1 at.2 (and_from _ _ quiet at.3)

  pub new_is_open : (x : Triple) → noted mode base told x ≡ New → list_any (same_triple x) (questions mode base told) ≡ true
  unfolding noted
  new_is_open x new = elim (cases_Bool (list_any (same_triple x) (raised mode base told))) [
    | inl up ↦ elim (cases_Bool (has_verdict told x)) [
      | inl known ↦ (let is : Known ≡ New = rw (up, known) at new in cc)
      | inr silent ↦ open_question x up silent
    ]
    | inr down ↦ (let is : Unasked ≡ New = rw down at new in cc)
  ]

  module _ (regular : IsRegular mode base told) where
    pub regular_took : (reader : ℕ) (b : Body) (claims : List Claim) → IsRegular mode base (told ++ took reader b claims ∷ [])
    regular_took reader b claims earlier later reader' c key sig verdict e = elim (split_push told earlier later (took reader b claims) (heard reader' c key sig verdict) e) [
      | inl h ↦ (let k = h.1 in cc)
      | inr h ↦ regular earlier h.0 reader' c key sig verdict h.1
    ]

    pub regular_heard : (reader : ℕ) (b : Body) (key : Key) (sig : Sig) (verdict : Bool) → list_any (same_triple (triple_on b key sig)) (questions mode base told) ≡ true
        → IsRegular mode base (told ++ heard reader b key sig verdict ∷ [])
    regular_heard reader b key sig verdict is_open earlier later reader' c key' sig' verdict' e = elim (split_push told earlier later (heard reader b key sig verdict) (heard reader' c key' sig' verdict') e) [
      | inl h ↦ (let k = h.1 in let one : b ≡ c = cc in let two : key ≡ key' = cc in let three : sig ≡ sig' = cc in rw (← h.0, ← one, ← two, ← three) is_open)
      | inr h ↦ regular earlier h.0 reader' c key' sig' verdict' h.1
    ]
