-- Which events a state takes that took one more, and not before: those right behind that one.
use Rattle.std.proofs.Common.{◌≡◌, ℕ, zero, suc, ◌+◌, ◌-◌, ◌<◌, ◌≤◌, ◌⊎◌, Bool, true, false, not, ◌==◌, nat_lt, nat_le, List, [], ◌∷◌, ◌++◌, length, Option, Some, None, is_none, slice_get, refl, sym, ◌∙◌, ap, arith, inl, inr, length-append, subst}
use Rattle.std.proofs.lemmas.Bool.{cases_Bool, or_parts, not-false, leb-false, ltb-false, eqb-true, le-ltb}
use Rattle.std.proofs.lemmas.Bool.Decides.{nat_tests}
use Rattle.cesr_codes.specs.declared.digest.Digest.{Digest}
use Rattle.event_body.specs.declared.event_body.event.Event.{Event}
use Rattle.event_body.specs.declared.event_body.event.Event.TheVariants.{Icp, Rot, Ixn, Dip, Drt, Rct}
use Rattle.event_body.specs.declared.event_body.inception.Inception.{Inception}
use Rattle.event_body.specs.declared.event_body.rotation.Rotation.{Rotation}
use Rattle.event_body.specs.EventBody.Events.{sn_of, said_of, prior_of, is_delegated}
use Rattle.key_state.specs.Heads.{head_sn}
use Rattle.key_state.specs.KeyStates.{digest_at, misfit, misfit_rules, moved, begun, first_true, are_same, is_other_sn, is_other_prior}
use Rattle.key_state.specs.States.{State}
use Rattle.journal.specs.Journal.Logs.{stepped, takes}
use Rattle.claim_table.specs.CoreLaws.Alike.{AreAlike}
use Rattle.claim_table.proofs.CoreLawsLemmas.States.{none_is}

-- each test is false
abbrev pub AllFalse : {X : Type 0} → List (Bool × X) → Type 0
AllFalse [] = Unit {0}
AllFalse (t ∷ ts) = (t.0 ≡ false) × AllFalse ts

all_false : {X : Type 0} (ts : List (Bool × X)) → first_true ts ≡ None → AllFalse ts
all_false [] e = tt
all_false (t ∷ ts) e = elim (cases_Bool t.0) [
  | inl h ↦ (let found : Some t.1 ≡ None = rw h at e in cc)
  | inr h ↦ (h, all_false ts (rw h at e))
]

none_true : {X : Type 0} (ts : List (Bool × X)) → AllFalse ts → first_true ts ≡ None
none_true [] h = refl
none_true (t ∷ ts) h = let here = h.0 in rw here (none_true ts h.1)

-- the event has the number behind the state's first live event, or its head
abbrev pub IsNext : Event → ℕ → Digest → Type 0
IsNext e n d = (sn_of e ≡ n + 1) × (are_same (prior_of e) (Some d) ≡ true)

-- a digest at a place
digest_is : (s : State) (n k : ℕ) (d : Digest) → n ≡ s.est_sn + k → slice_get s.since k ≡ Some d → digest_at s n ≡ Some d
digest_is s n k d e at =
    let low : nat_lt n s.est_sn ≡ false = le-ltb n s.est_sn (omega (arith, e)) in
    let place : n - s.est_sn ≡ k = omega (arith, e) in
    rw (low, place) at

last_at : {X : Type 0} (xs : List X) (x : X) → slice_get (xs ++ x ∷ []) (length xs) ≡ Some x
last_at [] x = refl
last_at (y ∷ xs) x = last_at xs x

front_at : {X : Type 0} (xs : List X) (x : X) (k : ℕ) → k < length xs → slice_get (xs ++ x ∷ []) k ≡ slice_get xs k
front_at [] x k h = absurd (omega (arith, h))
front_at (y ∷ xs) x zero h = refl
front_at (y ∷ xs) x (suc k) h = front_at xs x k (omega (arith, h))

-- what a state takes is the next event, or a rotation in the place of live interactions
taken_sn : (t : State) (e : Event) → 0 < length t.since → AllFalse (misfit_rules t e)
    → (sn_of e ≡ head_sn t + 1) ⊎ ((r : Rotation) × (e ≡ Rot r) × (t.est_sn < sn_of e) × (sn_of e ≤ head_sn t))
taken_sn t (Rot e) some all =
    let sns = or_parts _ _ all.1.1.1.0 in
    let above = leb-false e.sn t.est_sn sns.0 in
    let within = ltb-false (head_sn t + 1) e.sn sns.1 in
    elim (cases_Bool (e.sn == head_sn t + 1)) [
      | inl k ↦ inl (eqb-true e.sn (head_sn t + 1) k)
      | inr k ↦ inr (e, refl, above, grind (arith, nat_tests, k, within))
    ]
taken_sn t (Ixn e) some all = inl (eqb-true e.sn (head_sn t + 1) (not-false _ all.1.1.1.0))
taken_sn t (Drt e) some all = inl (eqb-true e.sn (head_sn t + 1) (not-false _ all.1.1.1.0))
taken_sn t (Icp e) some all = (let h = all.0 in cc)
taken_sn t (Dip e) some all = (let h = all.0 in cc)
taken_sn t (Rct e) some all = (let h = all.0 in cc)

-- it names the digest at the place before it
taken_prior : (t : State) (e : Event) (k : ℕ) (d : Digest) → AllFalse (misfit_rules t e) → sn_of e ≡ t.est_sn + k + 1 → slice_get t.since k ≡ Some d
    → are_same (prior_of e) (Some d) ≡ true
taken_prior t e k d all sn at =
    let named = digest_is t (sn_of e - 1) k d (omega (arith, sn)) at in
    let same = not-false _ all.1.1.1.1.0 in
    rw named at same

-- behind a state with one live event, only what names that is taken
behind_one : (t : State) (d : Digest) → t.since ≡ d ∷ [] → (e : Event) → AllFalse (misfit_rules t e) → IsNext e t.est_sn d
behind_one t d one e all =
    let len : length t.since ≡ 1 = ap length one in
    let at : slice_get t.since 0 ≡ Some d = ap (λ ds. slice_get ds 0) one in
    elim (taken_sn t e (omega (arith, len)) all) [
      | inl sn ↦ (omega (arith, sn, len), taken_prior t e 0 d all (omega (arith, sn, len)) at)
      | inr h ↦ (let low = h.2 in let high = h.3 in absurd (omega (arith, low, high, len)))
    ]

-- the state with one more live event
abbrev longer : State → Digest → State
longer s d = record s { since = s.since ++ d ∷ [] }

-- what it takes names the last, or is a rotation that the state takes without it
behind_last : (s : State) (d : Digest) → 0 < length s.since → (e : Event) → AllFalse (misfit_rules (longer s d) e)
    → IsNext e (s.est_sn + length s.since) d ⊎ ((is_delegated e ≡ false) × AllFalse (misfit_rules s e))
behind_last s d some e all =
    let len : length (s.since ++ d ∷ []) ≡ length s.since + 1 = length-append s.since (d ∷ []) in
    elim (taken_sn (longer s d) e (omega (arith, len)) all) [
      | inl sn ↦ inl (omega (arith, sn, len), taken_prior (longer s d) e (length s.since) d all (omega (arith, sn, len)) (last_at s.since d))
      | inr h ↦ inr (
        ap is_delegated h.1,
        (let low = h.2 in let high = h.3 in
            let old = earlier h.0 (subst (λ e. AllFalse (misfit_rules (longer s d) e)) h.1 all) (subst (λ e. s.est_sn < sn_of e) h.1 low)
            (subst (λ e. sn_of e ≤ s.est_sn + length s.since) h.1 (omega (arith, high, len))) in
            subst (λ e. AllFalse (misfit_rules s e)) (sym h.1) old),
      )
    ]
  where
    before : (n : ℕ) → s.est_sn < n → n ≤ s.est_sn + length s.since → digest_at (longer s d) (n - 1) ≡ digest_at s (n - 1)
    before n low high =
        let not_low : nat_lt (n - 1) s.est_sn ≡ false = le-ltb (n - 1) s.est_sn (omega (arith, low)) in
        let same = front_at s.since d ((n - 1) - s.est_sn) (omega (arith, low, high)) in
        rw (not_low, same) refl

    earlier : (r : Rotation) → AllFalse (misfit_rules (longer s d) (Rot r)) → s.est_sn < r.sn → r.sn ≤ s.est_sn + length s.since → AllFalse (misfit_rules s (Rot r))
    earlier r all low high =
        let low' = (or_parts (nat_le r.sn s.est_sn) _ all.1.1.1.0).0 in
        let within : nat_lt (head_sn s + 1) r.sn ≡ false = le-ltb (head_sn s + 1) r.sn (omega (arith, some, high)) in
        let sn : is_other_sn s (Rot r) ≡ false = rw (low', within) refl in
        let prior : is_other_prior s (Rot r) ≡ false = let same = before r.sn low high in ap (λ o. not (are_same (Some r.prior) o)) (sym same) ∙ all.1.1.1.1.0 in
        (all.0, (all.1.0, (all.1.1.0, (sn, (prior, (all.1.1.1.1.1.0, tt))))))

-- what a step leaves of the events that may come next: none but those behind the new one, where it changes the state, and
-- rotations in the place of live interactions that it takes without the new one
pub record TakenBefore (o : Option State) (o' : Option State) (f : Event) : Type 0 where
  pub old : State
  pub new : State
  pub old_is : o ≡ Some old
  pub new_is : o' ≡ Some new
  pub alike : AreAlike old new
  pub undelegated : is_delegated f ≡ false
  pub takes_it : takes (Some old) f ≡ true

abbrev pub HasSome : Option State → Type 0
HasSome None = Unit {0}
HasSome (Some s) = 0 < length s.since

from_rules : (s : State) (f : Event) → AllFalse (misfit_rules s f) → takes (Some s) f ≡ true
unfolding misfit
from_rules s f all = let none = none_true (misfit_rules s f) all in rw none refl

pub rules_of_taken : (s : State) (f : Event) → takes (Some s) f ≡ true → AllFalse (misfit_rules s f)
unfolding misfit
rules_of_taken s f h = all_false (misfit_rules s f) (none_is _ h)

-- the first event
behind_begun : (i : Inception) (f : Event) → takes (Some (begun i)) f ≡ true → IsNext f 0 i.said
behind_begun i f h = behind_one (begun i) i.said refl f (rules_of_taken (begun i) f h)

begun_next : (e f : Event) → takes (stepped None e) f ≡ true → (stepped None e ≡ None) ⊎ IsNext f (sn_of e) (said_of e)
begun_next (Icp i) f h = inr (behind_begun i f h)
begun_next (Dip i) f h = inr (behind_begun i f h)
begun_next (Rot e) f h = inl refl
begun_next (Ixn e) f h = inl refl
begun_next (Drt e) f h = inl refl
begun_next (Rct e) f h = inl refl

-- a later event
moved_next : (s : State) (e f : Event) → 0 < length s.since → AllFalse (misfit_rules s e) → takes (Some (moved s e)) f ≡ true
    → (moved s e ≡ s) ⊎ (IsNext f (sn_of e) (said_of e) ⊎ TakenBefore (Some s) (Some (moved s e)) f)
moved_next s (Icp e) f some fit h = inl refl
moved_next s (Dip e) f some fit h = inl refl
moved_next s (Rct e) f some fit h = inl refl
moved_next s (Rot e) f some fit h = inr (inl (behind_one (moved s (Rot e)) e.said refl f (rules_of_taken (moved s (Rot e)) f h)))
moved_next s (Drt e) f some fit h = inr (inl (behind_one (moved s (Drt e)) e.said refl f (rules_of_taken (moved s (Drt e)) f h)))
moved_next s (Ixn e) f some fit h =
    let next = eqb-true e.sn (head_sn s + 1) (not-false _ fit.1.1.1.0) in
    elim (behind_last s e.said some f (rules_of_taken (moved s (Ixn e)) f h)) [
      | inl k ↦ (let sn = k.0 in inr (inl (omega (arith, next, sn, some), k.1)))
      | inr k ↦ inr (inr (record { old = s; new = moved s (Ixn e); old_is = refl; new_is = refl; alike = refl; undelegated = k.0; takes_it = from_rules s f k.1 }))
    ]

pub step_next : (o : Option State) (e f : Event) → HasSome o → takes (stepped o e) f ≡ true
    → (stepped o e ≡ o) ⊎ (IsNext f (sn_of e) (said_of e) ⊎ TakenBefore o (stepped o e) f)
step_next None e f some h = elim (begun_next e f h) [ inl k ↦ inl k | inr k ↦ inr (inl k) ]
step_next (Some s) e f some h = elim (cases_Bool (is_none (misfit s e))) [
  | inr k ↦ inl (rw k refl)
  | inl k ↦ (let is : stepped (Some s) e ≡ Some (moved s e) = rw k refl in
      let taken : takes (Some (moved s e)) f ≡ true = ap (λ o. takes o f) (sym is) ∙ h in
      elim (moved_next s e f some (rules_of_taken s e k) taken) [
        | inl same ↦ inl (is ∙ ap (λ s. Some s) same)
        | inr (inl next) ↦ inr (inl next)
        | inr (inr before) ↦ inr (inr (subst (λ o. TakenBefore (Some s) o f) (sym is) before))
      ])
]
