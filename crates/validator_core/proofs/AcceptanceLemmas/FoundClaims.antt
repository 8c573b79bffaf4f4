-- How the claims of a table go over to a log with one more event, and to one more entry.
use Rattle.std.proofs.Common.{◌≡◌, ℕ, ◌+◌, ◌==◌, ◌&&◌, true, false, List, [], ◌∷◌, ◌++◌, Option, Some, None, refl, sym, ◌∙◌, ap, inl, inr, append-nil, subst}
use Rattle.std.proofs.lemmas.Bool.{cases_Bool}
use Rattle.std.proofs.Math.Bool.{and-false}
use Rattle.event_body.specs.EventBody.Events.{prefix_of, sn_of, said_of, prior_of, is_inception}
use Rattle.key_state.specs.KeyStates.{are_same}
use Rattle.event_body.specs.declared.event_body.event.Event.{Event}
use Rattle.event_body.specs.declared.event_body.event.Event.TheVariants.{Icp, Rot, Ixn, Dip, Drt, Rct}
use Rattle.journal.specs.declared.journal.body.Body.{Body}
use Rattle.journal.specs.Journal.Logs.{is_of, precedes, predecessor, stands}
use Rattle.journal.specs.Journal.History.{Told, claims_in}
use Rattle.journal.specs.Journal.Questions.{state_before}
use Rattle.claim_table.proofs.CoreLawsLemmas.Predecessors.{state_before-kept, state_before-none}
use Rattle.claim_table.specs.declared.claim_table.claimed.Claimed.{Claimed}
use Rattle.claim_table.specs.declared.claim_table.row.Row.{Row}
use Rattle.claim_table.specs.CoreLaws.ClaimRows.{AreFound, AreClaims, HasClaims, found_on, verdict_in}
use Rattle.claim_table.proofs.CoreLawsLemmas.Accepted.{claimed-kept, claimed-none}
use Rattle.claim_table.proofs.CoreLawsLemmas.Steps.{found_none, found_push, has_same}
use Rattle.validator_core.proofs.AcceptanceLemmas.Behind.{stands_not}

-- an inception names no event before it
prior_none : (e : Event) → is_inception e ≡ true → prior_of e ≡ None
prior_none (Icp e) first = refl
prior_none (Dip e) first = refl
prior_none (Rot e) first = cc
prior_none (Ixn e) first = cc
prior_none (Drt e) first = cc
prior_none (Rct e) first = cc

-- so nothing precedes it
pub first_precedes : (b c : Body) → is_inception b.event ≡ true → precedes b c ≡ false
first_precedes b c first =
    ap (λ p. (is_of (prefix_of b.event) c && (sn_of c.event + 1 == sn_of b.event)) && are_same p (Some (said_of c.event))) (prior_none b.event first)
    ∙ and-false (is_of (prefix_of b.event) c && (sn_of c.event + 1 == sn_of b.event))

pub first_has_none : (log : List Body) (b : Body) → is_inception b.event ≡ true → predecessor log b ≡ None
unfolding predecessor
first_has_none [] b first = refl
first_has_none (c ∷ log) b first = let none = first_precedes b c first in rw none (first_has_none log b first)

nothing_found : (told : List Told) (log : List Body) (b : Body) → is_inception b.event ≡ false → predecessor log b ≡ None → found_on told log b ≡ []
unfolding found_on
nothing_found told log b not_first none = let down = stands_not log b not_first none in rw down refl

-- ACCEPTED: the claims that were found are found behind the states of the longer log
pub found_moves : (told : List Told) (log : List Body) (c : Body) (n : ℕ) (b : Body) (cs : List Claimed)
    → AreFound n (state_before log b) b.event (found_on told log b) cs → AreFound n (state_before (log ++ c ∷ []) b) b.event (found_on told log b) cs
found_moves told log c n b cs are = by (predecessor log b) refl
  where
    by : (o : Option Body) → predecessor log b ≡ o → AreFound n (state_before (log ++ c ∷ []) b) b.event (found_on told log b) cs
    by (Some x) e = subst (λ s. AreFound n s b.event (found_on told log b) cs) (sym (state_before-kept log c b x e)) are
    by None e = elim (cases_Bool (is_inception b.event)) [
      | inl first ↦ subst (λ s. AreFound n s b.event (found_on told log b) cs) (sym (state_before-none log c b e (first_precedes b c first))) are
      | inr other ↦ (let none = nothing_found told log b other e in
          subst (λ fs. AreFound n (state_before (log ++ c ∷ []) b) b.event fs cs) (sym none)
          (found_none n (state_before log b) (state_before (log ++ c ∷ []) b) b.event cs (subst (λ fs. AreFound n (state_before log b) b.event fs cs) none are)))
    ]

pub claims_move : (told : List Told) (log : List Body) (c : Body) (held : List Body) (rows : List Row) → AreClaims told log held rows
    → HasClaims (state_before (log ++ c ∷ [])) (λ n b. found_on told log b) (verdict_in told) held rows
claims_move told log c held rows are = has_same (state_before log) (state_before (log ++ c ∷ [])) (λ n b. found_on told log b) (λ n b. found_on told log b) (verdict_in told) (verdict_in told) held rows are
    (λ n b at cs found. found_moves told log c n b cs found) (λ n b key sig at. refl)

-- and but for what stands right behind the new event the same claims are found
pub found_stays : (told : List Told) (log : List Body) (c b : Body) → ((predecessor log b ≡ None) → precedes b c ≡ false) → found_on told (log ++ c ∷ []) b ≡ found_on told log b
found_stays told log c b other = by (predecessor log b) refl
  where
    by : (o : Option Body) → predecessor log b ≡ o → found_on told (log ++ c ∷ []) b ≡ found_on told log b
    by (Some x) e = claimed-kept told log c b x e
    by None e = claimed-none told log c b e (other e)

-- TOLD: an entry leaves what is found of the bodies that it says nothing of
pub found_unnamed : (told : List Told) (t : Told) (log : List Body) (b : Body) → claims_in b t ≡ [] → found_on (told ++ t ∷ []) log b ≡ found_on told log b
found_unnamed told t log b none = found_push told t log b ∙ elim (cases_Bool (stands log b)) [
  | inl k ↦ rw (k, none) (append-nil (found_on told log b))
  | inr k ↦ rw k (append-nil (found_on told log b))
]
