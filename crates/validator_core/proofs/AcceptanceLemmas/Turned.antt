-- The claims of a table while bodies go over one by one.
use Rattle.std.proofs.Common.{◌≡◌, ℕ, ◌<◌, Bool, true, false, ◌||◌, ◌==◌, List, [], ◌∷◌, ◌++◌, length, Option, Some, refl, sym, ◌∙◌, ap, inl, inr, subst, if◌then◌else◌}
use Rattle.std.specs.Prelude.{slice_get}
use Rattle.std.specs.List.{list_any}
use Rattle.std.proofs.lemmas.Bool.{cases_Bool}
use Rattle.std.proofs.lemmas.List.Folds.{list_any-append}
use Rattle.std.proofs.Math.Bool.{or-false}
use Rattle.key_state.specs.States.{State}
use Rattle.key_state.proofs.Same.{numbers, number_itself}
use Rattle.journal.specs.declared.journal.body.Body.{Body}
use Rattle.journal.specs.Journal.History.{Triple}
use Rattle.journal.specs.EventRules.Parts.{Row as Found}
use Rattle.claim_table.specs.declared.claim_table.claimed.Claimed.{Claimed}
use Rattle.claim_table.specs.declared.claim_table.row.Row.{Row}
use Rattle.claim_table.specs.ClaimTable.Rows.{raised_all}
use Rattle.claim_table.specs.CoreLaws.ClaimRows.{AreFound, HasClaims}
use Rattle.claim_table.proofs.CoreLawsLemmas.Steps.{has_raised, has_same}
use Rattle.validator_core.specs.Acceptance.Turned.{turned}

module _ (was now : ℕ → Body → List Found) where
  -- one number more is done
  pub turned_here : (done : List ℕ) (m : ℕ) (b : Body) → turned was now (done ++ m ∷ []) m b ≡ now m b
  turned_here done m b = ap (λ y. if y then now m b else was m b) (list_any-append (λ k. k == m) done (m ∷ []) ∙ ap (λ y. list_any (λ k. k == m) done || (y || false)) (number_itself m) ∙ or_true (list_any (λ k. k == m) done))
    where
      or_true : (y : Bool) → (y || (true || false)) ≡ true
      or_true true = refl
      or_true false = refl

  pub turned_there : (done : List ℕ) (m n : ℕ) (b : Body) → (m == n) ≡ false → turned was now (done ++ m ∷ []) n b ≡ turned was now done n b
  turned_there done m n b other = ap (λ y. if y then now n b else was n b) (list_any-append (λ k. k == n) done (m ∷ []) ∙ ap (λ y. list_any (λ k. k == n) done || (y || false)) other ∙ or-false (list_any (λ k. k == n) done))

  module _ (behind : Body → Option State) (said : Triple → Option Bool) (held : List Body) (rows : List Row) (done : List ℕ) (m : ℕ) (b : Body) (at : slice_get held m ≡ Some b) (has : HasClaims behind (turned was now done) said held rows) where
    -- RAISED: the claims that are found now and weren't are raised
    pub turned_raised : (fs : List Found) (cs : List Claimed) → m < length held → AreFound m (behind b) b.event fs cs → now m b ≡ turned was now done m b ++ fs
        → HasClaims behind (turned was now (done ++ m ∷ [])) said held (raised_all rows cs)
    turned_raised fs cs low are here = has_raised behind (turned was now done) (turned was now (done ++ m ∷ [])) said held rows m b fs cs has at low are
        (turned_here done m b ∙ here) (λ n c there other. turned_there done m n c other)

    -- STAYS: or the same are found
    pub turned_same : now m b ≡ turned was now done m b → HasClaims behind (turned was now (done ++ m ∷ [])) said held rows
    turned_same same = has_same behind behind (turned was now done) (turned was now (done ++ m ∷ [])) said said held rows has moved (λ n c key sig there. refl)
      where
        moved : (n : ℕ) (c : Body) → slice_get held n ≡ Some c → (cs : List Claimed) → AreFound n (behind c) c.event (turned was now done n c) cs → AreFound n (behind c) c.event (turned was now (done ++ m ∷ []) n c) cs
        moved n c there cs found = elim (cases_Bool (m == n)) [
          | inl k ↦ (let number = numbers m n k in
              let one : b ≡ c = (let e : Some b ≡ Some c = sym at ∙ ap (slice_get held) number ∙ there in cc) in
              let list : turned was now done n c ≡ turned was now (done ++ m ∷ []) n c =
              subst (λ d. turned was now done n d ≡ turned was now (done ++ m ∷ []) n d) one (subst (λ k. turned was now done k b ≡ turned was now (done ++ m ∷ []) k b) number (sym same ∙ sym (turned_here done m b))) in
              subst (λ l. AreFound n (behind c) c.event l cs) list found)
          | inr k ↦ subst (λ l. AreFound n (behind c) c.event l cs) (sym (turned_there done m n c k)) found
        ]

  -- BEGIN: none is done
  pub turned_begins : (behind : Body → Option State) (said : Triple → Option Bool) (held : List Body) (rows : List Row) → HasClaims behind was said held rows → HasClaims behind (turned was now []) said held rows
  turned_begins behind said held rows has = has_same behind behind was (turned was now []) said said held rows has (λ n c there cs found. found) (λ n c key sig there. refl)

  -- END: of all others the same is found
  pub turned_ends : (behind : Body → Option State) (said : Triple → Option Bool) (held : List Body) (rows : List Row) (done : List ℕ) → HasClaims behind (turned was now done) said held rows
      → ((n : ℕ) (b : Body) → slice_get held n ≡ Some b → list_any (λ m. m == n) done ≡ false → was n b ≡ now n b) → HasClaims behind now said held rows
  turned_ends behind said held rows done has others = has_same behind behind (turned was now done) now said said held rows has moved (λ n c key sig there. refl)
    where
      moved : (n : ℕ) (c : Body) → slice_get held n ≡ Some c → (cs : List Claimed) → AreFound n (behind c) c.event (turned was now done n c) cs → AreFound n (behind c) c.event (now n c) cs
      moved n c there cs found = elim (cases_Bool (list_any (λ m. m == n) done)) [
        | inl k ↦ subst (λ l. AreFound n (behind c) c.event l cs) (ap (λ y. if y then now n c else was n c) k) found
        | inr k ↦ subst (λ l. AreFound n (behind c) c.event l cs) (ap (λ y. if y then now n c else was n c) k ∙ others n c there k) found
      ]
