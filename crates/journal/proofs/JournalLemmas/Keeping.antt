-- What holds of the base and is kept by each acceptance holds of what is accepted; so the accepted list is grown, and no ready body is left.
use Rattle.std.proofs.Common.{◌≡◌, Bool, true, false, not, ◌&&◌, ◌⊎◌, List, [], ◌∷◌, ◌++◌, length, None, IsTrue, refl, ap, append_assoc, append-nil, inl, inr}
use Rattle.std.specs.Prelude.{find, filter}
use Rattle.std.specs.List.{list_any, list_all}
use Rattle.std.proofs.lemmas.List.Sums.{count_by-le-length}
use Rattle.std.proofs.lemmas.List.Folds.{list_any-append}
use Rattle.std.proofs.lemmas.Bool.{cases_Bool, and_parts, and_from, or_left, or_right}
use Rattle.journal.specs.declared.journal.mode.Mode.{Mode}
use Rattle.key_state.specs.Same.{distinct}
use Rattle.event_body.specs.EventBody.Events.{is_receipt}
use Rattle.journal.specs.Journal.Logs.{Body, same_body, is_in}
use Rattle.journal.specs.Journal.History.{Told, bodies}
use Rattle.journal.specs.Journal.Readiness.{is_ready}
use Rattle.journal.specs.Journal.Grown.{IsGrown, fits}
use Rattle.journal.specs.Journal.Acceptance.{settled_over, Settles, rest, more, grown_by}
use Rattle.journal.specs.Journal.Accepted.{accepted}
use Rattle.journal.proofs.JournalLemmas.Settling.{find-true, settled_ends, left}
use Rattle.journal.proofs.JournalLemmas.Accepting.{same_body-refl, ready_is_new, grown_by_ends}

-- what each append of a ready body keeps holds at the end
pub Settles-keeps : {B : Type 0} (ready : List B → B → Bool) (all : List B) (P : List B → Type 0)
    → ((log : List B) (b : B) → P log → ready log b ≡ true → P (log ++ b ∷ []))
    → {log end : List B} → Settles ready all log end → P log → P end
Settles-keeps ready all P step (rest e) p = p
Settles-keeps ready all P step (more {accepted = log} {b = b} e s) p = Settles-keeps ready all P step s (step log b p (find-true (ready log) all b e))

module _ (mode : Mode) (base : List Body) (P : List Told → List Body → Type 0)
    (told_more : (told : List Told) (t : Told) (log : List Body) → P told log → P (told ++ t ∷ []) log)
    (log_more : (told : List Told) (log : List Body) (b : Body) → P told log → is_ready mode told log b ≡ true → P told (log ++ b ∷ [])) where
  settled_keeps : (told : List Told) (log : List Body) → P told log → P told (settled_over (is_ready mode) (bodies base) told log)
  unfolding left
  settled_keeps told log p = Settles-keeps (is_ready mode told) (bodies base told) (P told) (log_more told)
      (settled_ends (is_ready mode told) (bodies base told) same_body same_body-refl (ready_is_new mode told) (length (bodies base told)) log (count_by-le-length _ (bodies base told))) p

  grown_by_keeps : (log : List Body) (earlier later : List Told) → P earlier log → P (earlier ++ later) (grown_by (is_ready mode) (bodies base) log earlier later)
  unfolding grown_by
  grown_by_keeps log earlier [] p = rw append-nil p
  grown_by_keeps log earlier (t ∷ later) p =
      let now = earlier ++ t ∷ [] in
      let e = grown_by_keeps (settled_over (is_ready mode) (bodies base) now log) now later (settled_keeps now log (told_more earlier t log p)) in
      rw append_assoc at e

  -- INVARIANCE: what each entry and each acceptance keeps holds of what is accepted
  pub accepted_keeps : (told : List Told) → P [] base → P told (accepted mode base told)
  unfolding accepted
  accepted_keeps told p = grown_by_keeps base [] told p

-- a list with one more is cut before the last, or before an earlier one
pub split_push : {B : Type 0} (log before later : List B) (b c : B) → log ++ b ∷ [] ≡ before ++ c ∷ later
    → ((log ≡ before) × (b ≡ c)) ⊎ ((later' : List B) × (log ≡ before ++ c ∷ later'))
split_push [] [] later b c e = inl (refl, cc)
split_push [] (d ∷ []) later b c e = cc
split_push [] (d ∷ d' ∷ before) later b c e = cc
split_push (x ∷ log) [] later b c e = inr (log, (let same : x ≡ c = cc in ap (λ y. y ∷ log) same))
split_push (x ∷ log) (d ∷ before) later b c e =
    let same : x ≡ d = cc in
    let tails : log ++ b ∷ [] ≡ before ++ c ∷ later = cc in
    elim (split_push log before later b c tails) [
      | inl h ↦ inl ((let k = h.0 in cc), h.1)
      | inr h ↦ inr (h.0, (let k = h.1 in cc))
    ]

-- a grown list with a fitting body behind it is grown
pub IsGrown-push : (log : List Body) (b : Body) → IsGrown log → IsTrue (fits log b) → IsGrown (log ++ b ∷ [])
IsGrown-push log b grown here before later c e = elim (split_push log before later b c e) [
  | inl h ↦ rw (← h.0, ← h.1) here
  | inr h ↦ grown before h.0 c h.1
]

-- what is ready fits
pub ready_fits : (mode : Mode) (told : List Told) (log : List Body) (b : Body) → is_ready mode told log b ≡ true → IsTrue (fits log b)
unfolding is_ready fits
ready_fits mode told log b h = let parts = and_parts (not (is_receipt b.event) && not (is_in log b)) _ h in
    and_from _ _ parts.0 (and_parts _ _ (and_parts _ _ parts.1).0).0

-- ACCEPTED IS GROWN: over a grown base the accepted list is grown
pub accepted_grown : (mode : Mode) (base : List Body) (told : List Told) → IsGrown base → IsGrown (accepted mode base told)
accepted_grown mode base told grown = accepted_keeps mode base (λ _ log. IsGrown log) (λ told t log g. g) (λ told log b g r. IsGrown-push log b g (ready_fits mode told log b r)) told grown

-- with no entry nothing is ready, since each body is in the base
module _ {B : Type 0} (same : B → B → Bool) where
  pub list_all-filter : (p q : B → Bool) (xs : List B) → list_all q xs ≡ true → list_all q (filter p xs) ≡ true
  list_all-filter p q [] h = refl
  list_all-filter p q (x ∷ xs) h = let parts = and_parts (q x) (list_all q xs) h in let ih = list_all-filter p q xs parts.1 in
      elim (cases_Bool (p x)) [ inl k ↦ rw k (and_from (q x) _ parts.0 ih) | inr k ↦ rw k ih ]

  pub list_all-distinct : (q : B → Bool) (xs : List B) → list_all q xs ≡ true → list_all q (distinct same xs) ≡ true
  unfolding distinct
  list_all-distinct q [] h = refl
  list_all-distinct q (x ∷ xs) h = let parts = and_parts (q x) (list_all q xs) h in
      and_from (q x) _ parts.0 (list_all-filter _ q (distinct same xs) (list_all-distinct q xs parts.1))

  pub all_inside : ((b : B) → same b b ≡ true) → (before xs : List B) → list_all (λ b. list_any (λ c. same c b) (before ++ xs)) xs ≡ true
  all_inside itself before [] = refl
  all_inside itself before (x ∷ xs) = and_from _ _ (rw list_any-append (or_right _ _ (or_left _ _ (itself x))))
      (rw append_assoc at (all_inside itself (before ++ x ∷ []) xs))

find-none : {B : Type 0} (test q : B → Bool) → ((x : B) → q x ≡ true → test x ≡ false) → (xs : List B) → list_all q xs ≡ true → find test xs ≡ None
find-none test q fails [] h = refl
find-none test q fails (x ∷ xs) h = let parts = and_parts (q x) (list_all q xs) h in rw (fails x parts.0) (find-none test q fails xs parts.1)

none_at_first : (mode : Mode) (base : List Body) → find (is_ready mode [] base) (bodies base []) ≡ None
unfolding bodies
none_at_first mode base = find-none (is_ready mode [] base) (is_in base) old _
    (list_all-distinct same_body (is_in base) (base ++ []) (rw append-nil (all_inside same_body same_body-refl [] base)))
  where
    old : (b : Body) → is_in base b ≡ true → is_ready mode [] base b ≡ false
    old b h = elim (cases_Bool (is_ready mode [] base b)) [ inl r ↦ (let new = ready_is_new mode [] base b r in cc) | inr r ↦ r ]

-- NO READY BODY IS LEFT
pub accepted_ends : (mode : Mode) (base : List Body) (told : List Told) → find (is_ready mode told (accepted mode base told)) (bodies base told) ≡ None
unfolding accepted
accepted_ends mode base told = grown_by_ends (is_ready mode) (bodies base) same_body same_body-refl (ready_is_new mode) base [] told (none_at_first mode base)
