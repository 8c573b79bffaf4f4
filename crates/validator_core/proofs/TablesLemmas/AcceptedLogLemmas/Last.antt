-- The last state of an identifier.
use Rattle.std.proofs.Common.{◌≡◌, ℕ, zero, suc, ◌+◌, ◌<◌, ◌≤◌, true, false, List, [], ◌∷◌, ◌++◌, length, Option, Some, None, refl, sym, ◌∙◌, ap, subst, inl, inr, arith, if◌then◌else◌}
use Rattle.std.specs.Prelude.{slice_get}
use Rattle.std.proofs.lemmas.Bool.{cases_Bool}
use Rattle.std.proofs.lemmas.Option.{slice_get_within}
use Rattle.cesr_codes.specs.declared.prefix.Prefix.{Prefix}
use Rattle.key_state.specs.Same.{same_prefix}
use Rattle.key_state.specs.States.{State}
use Rattle.key_state.proofs.Same.{same_prefix_is, same_prefix_itself}
use Rattle.validator_core.specs.Tables.AcceptedLog.Values.{at_place, last_from, last_of, last_place, state_there}
use Rattle.validator_core.proofs.TablesLemmas.AcceptedLogLemmas.Lists.{at_place_here, at_place_there, still_at}
use Rattle.lists.proofs.ListsLemmas.Places.{at_end}

last_from-push : (n : ℕ) (prefix : Prefix) (states : List State) (s : State) → last_from n prefix (states ++ s ∷ []) ≡ (if same_prefix s.prefix prefix then Some (n + length states) else last_from n prefix states)
unfolding last_from
last_from-push n prefix [] s = elim (cases_Bool (same_prefix s.prefix prefix)) [
  | inl k ↦ (let sum : n ≡ n + 0 = omega arith in rw k (ap (λ k. Some k) sum))
  | inr k ↦ rw k refl
]
last_from-push n prefix (t ∷ states) s =
    let rest = last_from-push (n + 1) prefix states s in
    elim (cases_Bool (same_prefix s.prefix prefix)) [
      | inl k ↦ (let found : last_from (n + 1) prefix (states ++ s ∷ []) ≡ Some (n + 1 + length states) = rw k at rest in
          let sum : n + 1 + length states ≡ n + suc (length states) = omega arith in
          rw (found, k) (ap (λ k. Some k) sum))
      | inr k ↦ (let same : last_from (n + 1) prefix (states ++ s ∷ []) ≡ last_from (n + 1) prefix states = rw k at rest in rw (same, k) refl)
    ]

last_from-at : (n : ℕ) (prefix : Prefix) (states : List State) (k : ℕ) (f : State → State) → ((s : State) → (f s).prefix ≡ s.prefix) → last_from n prefix (at_place k f states) ≡ last_from n prefix states
unfolding last_from
last_from-at n prefix [] k f same = refl
last_from-at n prefix (s ∷ states) zero f same = let is = same s in rw is refl
last_from-at n prefix (s ∷ states) (suc k) f same = let rest = last_from-at (n + 1) prefix states k f same in rw rest refl

-- what is found is a state of the identifier
pub record IsThere (prefix : Prefix) (states : List State) (k : ℕ) : Type 0 where
  pub state : State
  pub at : slice_get states k ≡ Some state
  pub its : state.prefix ≡ prefix

record IsThereFrom (n : ℕ) (prefix : Prefix) (states : List State) (k : ℕ) : Type 0 where
  place : ℕ
  sum : k ≡ n + place
  there : IsThere prefix states place

there_from : (n : ℕ) (prefix : Prefix) (states : List State) (k : ℕ) → last_from n prefix states ≡ Some k → IsThereFrom n prefix states k
unfolding last_from
there_from n prefix [] k e = cc
there_from n prefix (s ∷ states) k e = elim (last_from (n + 1) prefix states) as (λ o. last_from (n + 1) prefix states ≡ o → IsThereFrom n prefix (s ∷ states) k) [
  | Some j ↦ (λ later.
      let found : Some j ≡ Some k = rw later at e in
      let rest = there_from (n + 1) prefix states k (later ∙ found) in
      let sum = rest.sum in
      record { place = suc rest.place; sum = omega (arith, sum); there = record { state = rest.there.state; at = rest.there.at; its = rest.there.its } })
  | None ↦ (λ none. elim (cases_Bool (same_prefix s.prefix prefix)) [
    | inl y ↦ (let found : Some n ≡ Some k = rw (none, y) at e in let is : n ≡ k = cc in
        record { place = 0; sum = omega (arith, is); there = record { state = s; at = refl; its = same_prefix_is s.prefix prefix y } })
    | inr y ↦ (let lost : None ≡ Some k = rw (none, y) at e in cc)
  ])
] refl

pub there : (prefix : Prefix) (states : List State) (k : ℕ) → last_place prefix states ≡ Some k → IsThere prefix states k
there prefix states k e = let found = there_from 0 prefix states k e in let sum = found.sum in
    let is : found.place ≡ k = omega (arith, sum) in subst (IsThere prefix states) is found.there

-- the last state, where it is one
pub last_is : (prefix : Prefix) (states : List State) (k : ℕ) → last_place prefix states ≡ Some k → (h : IsThere prefix states k) → last_of prefix states ≡ Some h.state
last_is prefix states k e h = ap (state_there states) e ∙ h.at

pub place_of_last : (prefix : Prefix) (states : List State) (s : State) → last_of prefix states ≡ Some s → (k : ℕ) × (last_place prefix states ≡ Some k) × (slice_get states k ≡ Some s)
place_of_last prefix states s e = by (last_place prefix states) refl
  where
    by : (o : Option ℕ) → last_place prefix states ≡ o → (k : ℕ) × (last_place prefix states ≡ Some k) × (slice_get states k ≡ Some s)
    by None none = let lost : None ≡ Some s = sym (ap (state_there states) none) ∙ e in cc
    by (Some k) some = (k, some, sym (ap (state_there states) some) ∙ e)

-- with one more state
pub last_of-push : (prefix : Prefix) (states : List State) (s : State) → last_of prefix (states ++ s ∷ []) ≡ (if same_prefix s.prefix prefix then Some s else last_of prefix states)
last_of-push prefix states s =
    let pushed = last_from-push 0 prefix states s in
    elim (cases_Bool (same_prefix s.prefix prefix)) [
      | inl y ↦ (let sum : 0 + length states ≡ length states = omega arith in
          let at : last_place prefix (states ++ s ∷ []) ≡ Some (0 + length states) = rw y at pushed in
          let found = ap (state_there (states ++ s ∷ [])) (at ∙ ap (λ k. Some k) sum) ∙ at_end states s in
          rw y found)
      | inr y ↦ (let same : last_place prefix (states ++ s ∷ []) ≡ last_place prefix states = rw y at pushed in
          let kept = ap (state_there (states ++ s ∷ [])) same ∙ within (last_place prefix states) refl in
          rw y kept)
    ]
  where
    within : (o : Option ℕ) → last_place prefix states ≡ o → state_there (states ++ s ∷ []) o ≡ state_there states o
    within None e = refl
    within (Some k) e = let h = there prefix states k e in still_at states (s ∷ []) k h.state h.at ∙ sym h.at

-- with a last state changed
pub last_of-at : (own prefix : Prefix) (states : List State) (k : ℕ) (s : State) (f : State → State) → ((t : State) → (f t).prefix ≡ t.prefix) → last_place own states ≡ Some k → slice_get states k ≡ Some s
    → last_of prefix (at_place k f states) ≡ (if same_prefix own prefix then Some (f s) else last_of prefix states)
last_of-at own prefix states k s f same is at =
    let alike = last_from-at 0 prefix states k f same in
    elim (cases_Bool (same_prefix own prefix)) [
      | inl y ↦ (let one = same_prefix_is own prefix y in
          let found = ap (state_there (at_place k f states)) (alike ∙ ap (λ p. last_place p states) (sym one) ∙ is) ∙ at_place_here f states k s at in
          rw y found)
      | inr y ↦ (let kept = ap (state_there (at_place k f states)) alike ∙ others y (last_place prefix states) refl in rw y kept)
    ]
  where
    others : same_prefix own prefix ≡ false → (o : Option ℕ) → last_place prefix states ≡ o → state_there (at_place k f states) o ≡ state_there states o
    others y None e = refl
    others y (Some j) e = at_place_there f states k j (λ one.
        let mine = there own states k is in
        let theirs = there prefix states j e in
        let both : Some mine.state ≡ Some theirs.state = sym mine.at ∙ ap (slice_get states) (sym one) ∙ theirs.at in
        let alike : mine.state ≡ theirs.state = cc in
        let prefixes : own ≡ prefix = sym mine.its ∙ ap (λ s. s.prefix) alike ∙ theirs.its in
        let clash : true ≡ false = sym (same_prefix_itself own) ∙ ap (same_prefix own) prefixes ∙ y in cc)

pub place_within : (prefix : Prefix) (states : List State) (k : ℕ) → last_place prefix states ≡ Some k → k < length states
place_within prefix states k e = let h = there prefix states k e in slice_get_within states k h.state h.at

-- where there is a state of the identifier, the last one is there or behind
last_not_before : (n : ℕ) (prefix : Prefix) (states : List State) (j : ℕ) (t : State) → slice_get states j ≡ Some t → same_prefix t.prefix prefix ≡ true → (k : ℕ) × (last_from n prefix states ≡ Some k) × (n + j ≤ k)
unfolding last_from
last_not_before n prefix [] j t at its = cc
last_not_before n prefix (s ∷ states) zero t at its = by (last_from (n + 1) prefix states) refl
  where
    first : s ≡ t
    first = cc

    mine : same_prefix s.prefix prefix ≡ true
    mine = ap (λ (s : State). same_prefix s.prefix prefix) first ∙ its

    by : (o : Option ℕ) → last_from (n + 1) prefix states ≡ o → (k : ℕ) × (last_from n prefix (s ∷ states) ≡ Some k) × (n + 0 ≤ k)
    by (Some k) later = let found = there_from (n + 1) prefix states k later in let sum = found.sum in (k, (rw later refl), omega (arith, sum))
    by None none = (n, (rw (none, mine) refl), omega arith)
last_not_before n prefix (s ∷ states) (suc j) t at its =
    let rest = last_not_before (n + 1) prefix states j t at its in
    let low = rest.2 in
    (rest.0, (let found = rest.1 in rw found refl), omega (arith, low))

pub last_is_last : (prefix : Prefix) (states : List State) (k j : ℕ) (t : State) → last_place prefix states ≡ Some k → slice_get states j ≡ Some t → same_prefix t.prefix prefix ≡ true → j ≤ k
last_is_last prefix states k j t last at its =
    let h = last_not_before 0 prefix states j t at its in
    let both : Some h.0 ≡ Some k = sym h.1 ∙ last in
    let is : h.0 ≡ k = cc in
    let low = h.2 in
    omega (arith, is, low)

-- a change of what isn't a state of the identifier
pub last_of-other : (prefix : Prefix) (states : List State) (k : ℕ) (f : State → State) → ((t : State) → (f t).prefix ≡ t.prefix) → ((t : State) → slice_get states k ≡ Some t → same_prefix t.prefix prefix ≡ true → ⊥)
    → last_of prefix (at_place k f states) ≡ last_of prefix states
last_of-other prefix states k f same other = ap (state_there (at_place k f states)) (last_from-at 0 prefix states k f same) ∙ by (last_place prefix states) refl
  where
    by : (o : Option ℕ) → last_place prefix states ≡ o → state_there (at_place k f states) o ≡ state_there states o
    by None e = refl
    by (Some j) e = at_place_there f states k j (λ one.
        let h = there prefix states j e in
        other h.state (ap (slice_get states) (sym one) ∙ h.at) (ap (λ p. same_prefix p prefix) h.its ∙ same_prefix_itself prefix))
