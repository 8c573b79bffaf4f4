-- What is known of an event that follows a state.
use Rattle.std.proofs.Common.{◌≡◌, ℕ, zero, suc, ◌+◌, ◌<◌, ◌^◌, Bool, false, List, [], ◌∷◌, length, Some, None, inl, inr, arith, refl, sym, ◌∙◌, ap}
use Rattle.std.specs.Prelude.{slice_get}
use Rattle.std.proofs.lemmas.Bool.{cases_Bool}
use Rattle.std.proofs.lemmas.Bool.Decides.{nat_tests}
use Rattle.event_body.specs.declared.event_body.event.Event.{Event}
use Rattle.event_body.specs.declared.event_body.event.Event.TheVariants.{Rot, Ixn, Drt}
use Rattle.event_body.specs.declared.event_body.interaction.Interaction.{Interaction}
use Rattle.event_body.specs.declared.event_body.rotation.Rotation.{Rotation}
use Rattle.key_state.specs.KeyStates.{first_true, misfit, misfit_rules, is_other_sn, is_other_prior, is_other_list, is_bad_change}
use Rattle.key_state.specs.States.{State}

-- where no first true test is found, each is false
none_at : {X : Type 0} (tests : List (Bool × X)) (i : ℕ) (b : Bool) (x : X) → slice_get tests i ≡ Some (b, x) → first_true tests ≡ None → b ≡ false
none_at [] i b x at h = cc
none_at (t ∷ ts) zero b x at h = elim (cases_Bool t.0) [
  | inl k ↦ (let some = rw k at h in cc)
  | inr k ↦ (let is : t ≡ (b, x) = cc in sym (ap (λ t. t.0) is) ∙ k)
]
none_at (t ∷ ts) (suc i) b x at h = elim (cases_Bool t.0) [
  | inl k ↦ (let some = rw k at h in cc)
  | inr k ↦ none_at ts i b x at (rw k at h)
]

module _ (s : State) (e : Event) (h : misfit s e ≡ None) where
  -- its number may come next
  pub fits_sn : is_other_sn s e ≡ false
  unfolding misfit
  fits_sn = none_at (misfit_rules s e) 3 _ _ refl h

  -- it names the digest of the event before its number
  pub fits_prior : is_other_prior s e ≡ false
  unfolding misfit
  fits_prior = none_at (misfit_rules s e) 4 _ _ refl h

  -- it changes the witness list as it may
  pub fits_list : is_other_list s e ≡ false
  unfolding misfit
  fits_list = none_at (misfit_rules s e) 5 _ _ refl h

-- there is room for the number of an interaction that follows
pub few_since : (s : State) (e : Interaction) → misfit s (Ixn e) ≡ None → e.sn < 2 ^ 64 → s.est_sn + length s.since < 2 ^ 64
few_since s e h k = let next = fits_sn s (Ixn e) h in grind (arith, nat_tests, next)

-- and a rotation changes the witness list as it may
pub fits : (s : State) (e : Rotation) → misfit s (Rot e) ≡ None → is_bad_change s.list e ≡ false
fits s e h = fits_list s (Rot e) h

pub fits_delegated : (s : State) (e : Rotation) → misfit s (Drt e) ≡ None → is_bad_change s.list e ≡ false
fits_delegated s e h = fits_list s (Drt e) h
