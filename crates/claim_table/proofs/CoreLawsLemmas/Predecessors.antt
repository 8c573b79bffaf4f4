-- The predecessor of a body, and the state just after an event, in a log with one more event.
use Rattle.std.proofs.Common.{◌≡◌, Bool, true, false, List, [], ◌∷◌, ◌++◌, Some, None, refl, ◌∙◌, ap, inl, inr, if◌then◌else◌}
use Rattle.std.specs.Prelude.{find}
use Rattle.std.proofs.lemmas.Bool.{cases_Bool, or_left, or_parts, or_right, or_cases}
use Rattle.event_body.specs.EventBody.Events.{prefix_of}
use Rattle.journal.specs.declared.journal.body.Body.{Body}
use Rattle.journal.specs.Journal.Logs.{is_in, precedes, predecessor, same_body, state, up_to}
use Rattle.journal.specs.Journal.Questions.{state_before}
use Rattle.journal.proofs.JournalLemmas.Accepting.{same_body-refl}
use Rattle.claim_table.proofs.CoreLawsLemmas.Finding.{find-kept, find-next}

-- what is found is in the list
pub found_in : (test : Body → Bool) (log : List Body) (b : Body) → find test log ≡ Some b → is_in log b ≡ true
found_in test [] b e = cc
found_in test (c ∷ log) b e = elim (cases_Bool (test c)) [
  | inl k ↦ (let found : Some c ≡ Some b = rw k at e in let same : c ≡ b = cc in or_left _ _ (ap (λ d. same_body d b) same ∙ same_body-refl b))
  | inr k ↦ (let later : find test log ≡ Some b = rw k at e in or_right _ _ (found_in test log b later))
]

-- the list up to a member has nothing of what comes later
pub up_to-kept : (log : List Body) (b c : Body) → is_in log b ≡ true → up_to b (log ++ c ∷ []) ≡ up_to b log
unfolding up_to
up_to-kept [] b c inside = cc
up_to-kept (d ∷ log) b c inside = elim (cases_Bool (same_body d b)) [
  | inl k ↦ rw k refl
  | inr k ↦ (let later = elim (or_cases (same_body d b) (is_in log b) inside) as (λ _. is_in log b ≡ true) [ inl y ↦ cc (y, k) | inr y ↦ y ] in
      let ih = up_to-kept log b c later in rw (k, ih) refl)
]

-- the list up to its last has all
pub up_to-last : (log : List Body) (c : Body) → is_in log c ≡ false → up_to c (log ++ c ∷ []) ≡ log ++ c ∷ []
unfolding up_to
up_to-last [] c outside = let itself = same_body-refl c in rw itself refl
up_to-last (d ∷ log) c outside =
    let parts = or_parts (same_body d c) (is_in log c) outside in
    let other = parts.0 in let ih = up_to-last log c parts.1 in rw (other, ih) refl

module _ (log : List Body) (c b : Body) where
  abbrev more : List Body
  more = log ++ c ∷ []

  -- PREDECESSOR: it stays, once there is one; the new event is it where it stands before the body; else there is none
  pub predecessor-kept : (x : Body) → predecessor log b ≡ Some x → predecessor more b ≡ Some x
  unfolding predecessor
  predecessor-kept x e = find-kept (precedes b) c log x e

  pub predecessor-next : predecessor log b ≡ None → predecessor more b ≡ (if precedes b c then Some c else None)
  unfolding predecessor
  predecessor-next e = find-next (precedes b) c log e

  predecessor_in : (x : Body) → predecessor log b ≡ Some x → is_in log x ≡ true
  unfolding predecessor
  predecessor_in x e = found_in (precedes b) log x e

  -- and so does the state that the body follows
  pub state_before-kept : (x : Body) → predecessor log b ≡ Some x → state_before more b ≡ state_before log b
  state_before-kept x e =
      let kept = predecessor-kept x e in let front = up_to-kept log x c (predecessor_in x e) in
      rw (kept, e, front) refl

  pub state_before-none : predecessor log b ≡ None → precedes b c ≡ false → state_before more b ≡ state_before log b
  state_before-none e other = let next = predecessor-next e in rw (next, other, e) refl

  -- behind the new event it is the state of its log
  pub state_before-next : predecessor log b ≡ None → precedes b c ≡ true → is_in log c ≡ false → state_before more b ≡ state more (prefix_of c.event)
  state_before-next e behind outside =
      let next = predecessor-next e in let all = up_to-last log c outside in
      rw (next, behind, all) refl
