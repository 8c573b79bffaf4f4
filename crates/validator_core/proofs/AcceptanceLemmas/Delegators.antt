-- A delegator's inception forbids delegation exactly where the traits of its current state do.
use Rattle.std.proofs.Common.{◌≡◌, Bool, true, false, not, ◌&&◌, ◌||◌, List, [], ◌∷◌, ◌++◌, Option, Some, None, refl, sym, ◌∙◌, ap, inl, inr, subst, append-nil, append_assoc}
use Rattle.std.specs.Prelude.{codes, IsTrue, if◌then◌else◌}
use Rattle.std.proofs.lemmas.Bool.{and_parts, cases_Bool}
use Rattle.std.proofs.lemmas.List.Folds.{list_any-append}
use Rattle.std.proofs.Math.Bool.{or-false}
use Rattle.cesr_codes.specs.declared.prefix.Prefix.{Prefix}
use Rattle.event_body.specs.declared.event_body.event.Event.{Event}
use Rattle.event_body.specs.declared.event_body.event.Event.TheVariants.{Icp, Rot, Ixn, Dip, Drt, Rct}
use Rattle.event_body.specs.EventBody.Events.{prefix_of, is_receipt, is_delegated}
use Rattle.key_state.specs.KeyStates.{misfit, moved}
use Rattle.key_state.specs.Same.{has_text}
use Rattle.key_state.specs.States.{State}
use Rattle.key_state.proofs.Same.{same_prefix_is}
use Rattle.journal.specs.declared.journal.body.Body.{Body}
use Rattle.journal.specs.Journal.Grown.{IsGrown, fits}
use Rattle.journal.specs.Journal.Logs.{is_in, is_of, state, stepped, takes}
use Rattle.journal.specs.Journal.Seals.{anchored, delegator_of, forbids, has_trait, is_sealed}
use Rattle.journal.proofs.JournalLemmas.StateSteps.{state-own, state-other}

-- the state's traits forbid it, where there is a state
abbrev pub forbids_by : Option State → Bool
forbids_by None = false
forbids_by (Some s) = has_text s.traits (codes "DND")

-- a state that takes an event keeps its traits; an inception sets them
begun_traits : (e : Event) → takes None e ≡ true → (has_trait (codes "DND") e) ≡ forbids_by (stepped None e)
begun_traits (Icp e) taken = refl
begun_traits (Dip e) taken = refl
begun_traits (Rot e) taken = cc
begun_traits (Ixn e) taken = cc
begun_traits (Drt e) taken = cc
begun_traits (Rct e) taken = cc

moved_traits : (s : State) (e : Event) → takes (Some s) e ≡ true → (has_text s.traits (codes "DND") || (has_trait (codes "DND") e || false)) ≡ forbids_by (Some (moved s e))
unfolding misfit
moved_traits s (Icp e) taken = cc
moved_traits s (Dip e) taken = cc
moved_traits s (Rot e) taken = or-false (has_text s.traits (codes "DND"))
moved_traits s (Ixn e) taken = or-false (has_text s.traits (codes "DND"))
moved_traits s (Drt e) taken = or-false (has_text s.traits (codes "DND"))
moved_traits s (Rct e) taken = cc

stepped_traits : (o : Option State) (e : Event) → takes o e ≡ true → (forbids_by o || (has_trait (codes "DND") e || false)) ≡ forbids_by (stepped o e)
stepped_traits None e taken = or-false (has_trait (codes "DND") e) ∙ begun_traits e taken
stepped_traits (Some s) e taken = moved_traits s e taken ∙ ap (λ y. forbids_by (if y then Some (moved s e) else Some s)) (sym taken)

module _ (d : Prefix) where
  one_more : (seen : List Body) (c : Body) → IsTrue (fits seen c) → forbids seen d ≡ forbids_by (state seen d) → forbids (seen ++ c ∷ []) d ≡ forbids_by (state (seen ++ c ∷ []) d)
  unfolding fits
  one_more seen c fit h = list_any-append (λ b. is_of d b && has_trait (codes "DND") b.event) seen (c ∷ [])
      ∙ ap (λ y. y || ((is_of d c && has_trait (codes "DND") c.event) || false)) h
      ∙ elim (cases_Bool (is_of d c)) [
        | inl k ↦ (let of : prefix_of c.event ≡ d = same_prefix_is (prefix_of c.event) d k in
            let taken : takes (state seen d) c.event ≡ true = subst (λ p. takes (state seen p) c.event ≡ true) of (and_parts (not (is_receipt c.event) && not (is_in seen c)) _ fit).1 in
            ap (λ y. forbids_by (state seen d) || ((y && has_trait (codes "DND") c.event) || false)) k
            ∙ stepped_traits (state seen d) c.event taken
            ∙ ap forbids_by (sym (state-own seen c d k)))
        | inr k ↦ ap (λ y. forbids_by (state seen d) || ((y && has_trait (codes "DND") c.event) || false)) k
            ∙ or-false (forbids_by (state seen d)) ∙ ap forbids_by (sym (state-other seen c d k))
      ]

  over : (seen rest : List Body) → IsGrown (seen ++ rest) → forbids seen d ≡ forbids_by (state seen d) → forbids (seen ++ rest) d ≡ forbids_by (state (seen ++ rest) d)
  over seen [] grown h = rw append-nil h
  over seen (c ∷ rest) grown h =
      let e = append_assoc seen (c ∷ []) rest in
      subst (λ l. forbids l d ≡ forbids_by (state l d)) e (over (seen ++ c ∷ []) rest (subst IsGrown (sym e) grown) (one_more seen c (grown seen rest c refl) h))

  nothing : forbids [] d ≡ forbids_by (state [] d)
  unfolding state
  nothing = refl

-- FORBIDS
pub forbids_is : (log : List Body) → IsGrown log → (d : Prefix) → forbids log d ≡ forbids_by (state log d)
forbids_is log grown d = over d [] log grown (nothing d)

-- ANCHORED
module _ (log : List Body) (s : Option State) (e : Event) where
  pub needs_none : is_delegated e ≡ false → anchored log s e ≡ true
  unfolding anchored
  needs_none other = rw other refl

  pub no_delegator : is_delegated e ≡ true → delegator_of s e ≡ None → anchored log s e ≡ false
  unfolding anchored
  no_delegator delegated none = rw (delegated, none) refl

  pub sealed_by : (d : Prefix) → is_delegated e ≡ true → delegator_of s e ≡ Some d → anchored log s e ≡ (is_sealed log d e && not (forbids log d))
  unfolding anchored
  sealed_by d delegated some = rw (delegated, some) refl
