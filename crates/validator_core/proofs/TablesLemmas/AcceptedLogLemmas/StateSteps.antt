-- The state of an identifier, after its events and with one more.
use Rattle.std.proofs.Common.{◌≡◌, ℕ, ◌+◌, ◌-◌, ◌<◌, ◌≤◌, true, false, not, ◌&&◌, nat_lt, List, [], ◌∷◌, ◌++◌, length, filter, fold, Option, Some, None, is_none, refl, sym, ◌∙◌, ap, arith, inl, inr, length-append}
use Rattle.std.specs.Prelude.{slice_get, IsTrue}
use Rattle.std.proofs.lemmas.Bool.{cases_Bool, and_parts, eqb-true, ltb-false, le-ltb, not-true, not-false}
use Rattle.std.proofs.lemmas.List.{take_all, take-append-le}
use Rattle.cesr_codes.specs.declared.digest.Digest.{Digest}
use Rattle.cesr_codes.specs.declared.prefix.Prefix.{Prefix}
use Rattle.event_body.specs.declared.event_body.event.Event.{Event}
use Rattle.event_body.specs.declared.event_body.event.Event.TheVariants.{Icp, Rot, Ixn, Dip, Drt, Rct}
use Rattle.event_body.specs.EventBody.Events.{prefix_of, sn_of, said_of, is_inception, is_interaction, is_receipt}
use Rattle.key_state.specs.Heads.{head_sn}
use Rattle.key_state.specs.KeyStates.{begun, digest_at, misfit, moved}
use Rattle.key_state.specs.Same.{same_prefix}
use Rattle.key_state.specs.States.{State}
use Rattle.key_state.proofs.NoMisfit.{fits_sn}
use Rattle.key_state.proofs.Same.{same_prefix_is, same_prefix_itself}
use Rattle.journal.specs.declared.journal.body.Body.{Body}
use Rattle.journal.specs.Journal.Grown.{fits}
use Rattle.journal.specs.Journal.Logs.{is_in, is_of, state, stepped, takes}
use Rattle.journal.proofs.JournalLemmas.StateSteps.{state-own}
use Rattle.validator_core.specs.Tables.AcceptedLog.Cuts.{cut}
use Rattle.validator_core.specs.Tables.AcceptedLog.Values.{with_since}

-- a state is of its identifier, and has the digest of the event that made it
pub record IsOwn (prefix : Prefix) (s : State) : Type 0 where
  pub its : s.prefix ≡ prefix
  pub some : 0 < length s.since

abbrev pub IsOwnIf : Prefix → Option State → Type 0
IsOwnIf prefix None = Unit {0}
IsOwnIf prefix (Some s) = IsOwn prefix s

moved_own : (prefix : Prefix) (s : State) (e : Event) → IsOwn prefix s → IsOwn prefix (moved s e)
moved_own prefix s (Rot e) h = record { its = h.its; some = omega arith }
moved_own prefix s (Drt e) h = record { its = h.its; some = omega arith }
moved_own prefix s (Ixn e) h = record { its = h.its; some = omega (arith, length-append s.since (e.said ∷ [])) }
moved_own prefix s (Icp e) h = h
moved_own prefix s (Dip e) h = h
moved_own prefix s (Rct e) h = h

stepped_own : (prefix : Prefix) (o : Option State) (e : Event) → same_prefix (prefix_of e) prefix ≡ true → IsOwnIf prefix o → IsOwnIf prefix (stepped o e)
stepped_own prefix None (Icp e) k h = record { its = same_prefix_is e.prefix prefix k; some = omega arith }
stepped_own prefix None (Dip e) k h = record { its = same_prefix_is e.prefix prefix k; some = omega arith }
stepped_own prefix None (Rot e) k h = tt
stepped_own prefix None (Ixn e) k h = tt
stepped_own prefix None (Drt e) k h = tt
stepped_own prefix None (Rct e) k h = tt
stepped_own prefix (Some s) e k h = elim (cases_Bool (is_none (misfit s e))) [
  | inl y ↦ rw y (moved_own prefix s e h)
  | inr y ↦ rw y h
]

all_own : (prefix : Prefix) (rest : List Body) (o : Option State) → IsOwnIf prefix o → IsOwnIf prefix (fold (λ s b. stepped s b.event) o (filter (is_of prefix) rest))
all_own prefix [] o h = h
all_own prefix (b ∷ rest) o h = elim (cases_Bool (is_of prefix b)) [
  | inl k ↦ rw k (all_own prefix rest (stepped o b.event) (stepped_own prefix o b.event k h))
  | inr k ↦ rw k (all_own prefix rest o h)
]

pub state_own : (prefix : Prefix) (log : List Body) → IsOwnIf prefix (state log prefix)
unfolding state
state_own prefix log = all_own prefix log None tt

pub own_state : (prefix : Prefix) (log : List Body) (s : State) → state log prefix ≡ Some s → IsOwn prefix s
own_state prefix log s e = by (state log prefix) e (state_own prefix log)
  where
    by : (o : Option State) → o ≡ Some s → IsOwnIf prefix o → IsOwn prefix s
    by None e h = cc
    by (Some t) e h = let is : t ≡ s = cc in rw is at h

-- what a digest at a number says of the list of digests, and the other way round
pub live_at : (s : State) (n : ℕ) (d : Digest) → digest_at s n ≡ Some d → (s.est_sn ≤ n) × (slice_get s.since (n - s.est_sn) ≡ Some d)
live_at s n d e = elim (cases_Bool (nat_lt n s.est_sn)) [
  | inl h ↦ (let none : None ≡ Some d = rw h at e in cc)
  | inr h ↦ (ltb-false n s.est_sn h, rw h at e)
]

pub live_from : (s : State) (n : ℕ) (d : Digest) → s.est_sn ≤ n → slice_get s.since (n - s.est_sn) ≡ Some d → digest_at s n ≡ Some d
live_from s n d low at = let not_below = le-ltb n s.est_sn low in rw not_below at

-- cut behind all that there is, a state is itself; and one more event behind changes nothing of a cut
pub cut_all : (n : ℕ) (s : State) → length s.since ≤ n - s.est_sn + 1 → cut n s ≡ s
cut_all n s few = ap (λ (ds : List Digest). record s { since = ds }) (take_all (n - s.est_sn + 1) s.since few)

pub cut_more : (n : ℕ) (s : State) (d : Digest) → n - s.est_sn + 1 ≤ length s.since → cut n (with_since d s) ≡ cut n s
cut_more n s d few = ap (λ (ds : List Digest). record s { since = ds }) (take-append-le (n - s.est_sn + 1) s.since (d ∷ []) few)

-- the state that an establishment event makes has its number and its digest alone
pub record IsNew (e : Event) (s : State) : Type 0 where
  pub est : s.est_sn ≡ sn_of e
  pub alone : s.since ≡ said_of e ∷ []

moved_new : (s t : State) (e : Event) → is_inception e ≡ false → is_interaction e ≡ false → is_receipt e ≡ false → Some (moved s e) ≡ Some t → IsNew e t
moved_new s t (Rot e) i j r h = let is : moved s (Rot e) ≡ t = cc in record { est = ap (λ s. s.est_sn) (sym is); alone = ap (λ s. s.since) (sym is) }
moved_new s t (Drt e) i j r h = let is : moved s (Drt e) ≡ t = cc in record { est = ap (λ s. s.est_sn) (sym is); alone = ap (λ s. s.since) (sym is) }
moved_new s t (Icp e) i j r h = cc
moved_new s t (Dip e) i j r h = cc
moved_new s t (Ixn e) i j r h = cc
moved_new s t (Rct e) i j r h = cc

no_second : (s : State) (e : Event) → is_inception e ≡ true → is_none (misfit s e) ≡ false
unfolding misfit
no_second s (Icp e) i = refl
no_second s (Dip e) i = refl
no_second s (Rot e) i = cc
no_second s (Ixn e) i = cc
no_second s (Drt e) i = cc
no_second s (Rct e) i = cc

pub new_of : (o : Option State) (e : Event) (t : State) → takes o e ≡ true → is_interaction e ≡ false → is_receipt e ≡ false → stepped o e ≡ Some t → IsNew e t
new_of None (Icp e) t h j r is = let same : begun e ≡ t = cc in record { est = ap (λ s. s.est_sn) (sym same); alone = ap (λ s. s.since) (sym same) }
new_of None (Dip e) t h j r is = let same : begun e ≡ t = cc in record { est = ap (λ s. s.est_sn) (sym same); alone = ap (λ s. s.since) (sym same) }
new_of None (Rot e) t h j r is = cc
new_of None (Ixn e) t h j r is = cc
new_of None (Drt e) t h j r is = cc
new_of None (Rct e) t h j r is = cc
new_of (Some s) e t h j r is = elim (cases_Bool (is_inception e)) [
  | inl i ↦ (let clash : true ≡ false = sym h ∙ no_second s e i in cc)
  | inr i ↦ moved_new s t e i j r (rw h at is)
]

-- an interaction follows a state, and goes onto it
pub record GoesOnto (o : Option State) (e : Event) (s : State) : Type 0 where
  pub was : o ≡ Some s
  pub now : stepped o e ≡ Some (with_since (said_of e) s)
  pub next : sn_of e ≡ head_sn s + 1

none_is : {X : Type 0} (o : Option X) → is_none o ≡ true → o ≡ None
none_is None h = refl
none_is (Some x) h = cc

goes_from : (s : State) (e : Event) → is_none (misfit s e) ≡ true → is_interaction e ≡ true → GoesOnto (Some s) e s
goes_from s (Ixn e) h i = record { was = refl; now = (rw h refl); next = eqb-true e.sn (head_sn s + 1) (not-false _ (fits_sn s (Ixn e) (none_is _ h))) }
goes_from s (Icp e) h i = cc
goes_from s (Dip e) h i = cc
goes_from s (Rot e) h i = cc
goes_from s (Drt e) h i = cc
goes_from s (Rct e) h i = cc

not_first : (e : Event) → is_interaction e ≡ true → takes None e ≡ false
not_first (Ixn e) i = refl
not_first (Icp e) i = cc
not_first (Dip e) i = cc
not_first (Rot e) i = cc
not_first (Drt e) i = cc
not_first (Rct e) i = cc

pub goes_onto : (o : Option State) (e : Event) → takes o e ≡ true → is_interaction e ≡ true → (s : State) × GoesOnto o e s
goes_onto None e h i = let clash : true ≡ false = sym h ∙ not_first e i in cc
goes_onto (Some s) e h i = (s, goes_from s e h i)

-- what a body that fits says
pub record Fits (log : List Body) (b : Body) : Type 0 where
  pub event : is_receipt b.event ≡ false
  pub new : is_in log b ≡ false
  pub taken : takes (state log (prefix_of b.event)) b.event ≡ true
  pub step : state (log ++ b ∷ []) (prefix_of b.event) ≡ stepped (state log (prefix_of b.event)) b.event

pub fits_parts : (log : List Body) (b : Body) → IsTrue (fits log b) → Fits log b
unfolding fits
fits_parts log b fit =
    let parts = and_parts (not (is_receipt b.event) && not (is_in log b)) (takes (state log (prefix_of b.event)) b.event) fit in
    let two = and_parts (not (is_receipt b.event)) (not (is_in log b)) parts.0 in
    record {
      event = not-true _ two.0;
      new = not-true _ two.1;
      taken = parts.1;
      step = state-own log b (prefix_of b.event) (same_prefix_itself (prefix_of b.event));
    }
