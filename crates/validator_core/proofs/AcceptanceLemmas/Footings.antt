-- What the footing of an event says of it.
use Rattle.std.proofs.Common.{◌≡◌, ℕ, false, true, List, Option, Some, None, is_some, refl, sym, ◌∙◌, ap, subst, inl, inr}
use Rattle.std.proofs.lemmas.Bool.{cases_Bool}
use Rattle.std.specs.Prelude.{IfNone, IfSome}
use Rattle.event_body.specs.declared.event_body.event.Event.{Event}
use Rattle.event_body.specs.declared.event_body.event.Event.TheVariants.{Icp, Rot, Ixn, Dip, Drt, Rct}
use Rattle.event_body.specs.EventBody.Events.{is_inception, is_receipt, prefix_of}
use Rattle.key_state.specs.KeyStates.{misfit}
use Rattle.key_state.specs.States.{State}
use Rattle.journal.specs.Journal.Grown.{IsGrown}
use Rattle.journal.specs.declared.journal.body.Body.{Body}
use Rattle.journal.specs.Journal.Logs.{stands, state, takes}
use Rattle.journal.specs.Journal.Questions.{state_before}
use Rattle.claim_table.specs.CoreLaws.Standing.{AreAlikeIf, HasNoClash}
use Rattle.claim_table.proofs.CoreLawsLemmas.Standing.{current, current_stands}
use Rattle.validator_core.specs.Tables.AcceptedLog.Cuts.{IsLog, cut}
use Rattle.validator_core.specs.Tables.AcceptedLog.Values.{Log, last_place, state_there}
use Rattle.validator_core.specs.Acceptance.Footing.{IsFooting}
use Rattle.validator_core.specs.declared.acceptance.footing.Footing.{Footing}
use Rattle.validator_core.specs.declared.acceptance.footing.Footing.TheVariants.{Inception, Behind}
use Rattle.validator_core.specs.Acceptance.Current.{IsOnCurrent}

module _ (log : List Body) (v : Log) (b : Body) where
  pub stands_if : (o : Option Footing) → IfNone o (stands log b ≡ false) → IfSome o (λ on. IsFooting log v b on) → is_some o ≡ stands log b
  stands_if None none some = sym none
  stands_if (Some on) none some = sym some.up

  pub first_on : (on : Footing) → on ≡ Inception → IsFooting log v b on → IsOnCurrent log b
  first_on on is footing = let f = subst (IsFooting log v b) is footing in record { up = f.up; is = inl f.is }

  pub behind_on : IsLog log v → (on : Footing) (place : ℕ) → on ≡ Behind place → IsFooting log v b on → last_place (prefix_of b.event) v.states ≡ Some place → IsOnCurrent log b
  behind_on are on place is footing last =
      let f = subst (IsFooting log v b) is footing in
      let now : state log (prefix_of b.event) ≡ Some f.is.state = sym (are.current (prefix_of b.event)) ∙ ap (state_there v.states) last ∙ f.is.at in
      let alike : AreAlikeIf (state_before log b) (state log (prefix_of b.event)) =
      subst (λ o. AreAlikeIf o (state log (prefix_of b.event))) (sym f.is.before) (subst (λ o. AreAlikeIf (Some (cut f.is.sn f.is.state)) o) (sym now) refl) in
      record { up = f.up; is = inr alike }

no_receipt : (o : Option State) (e : Event) → takes o e ≡ true → is_receipt e ≡ false
unfolding misfit
no_receipt None (Rct e) h = cc
no_receipt (Some s) (Rct e) h = cc
no_receipt o (Icp e) h = refl
no_receipt o (Rot e) h = refl
no_receipt o (Ixn e) h = refl
no_receipt o (Dip e) h = refl
no_receipt o (Drt e) h = refl

inception_stands : (log : List Body) (b : Body) → is_inception b.event ≡ true → stands log b ≡ true
unfolding stands
inception_stands log b i = rw i refl

-- where no two accepted events clash, what the current state takes stands on it
pub taken_on : (log : List Body) (b : Body) → IsGrown log → HasNoClash log → takes (state log (prefix_of b.event)) b.event ≡ true → IsOnCurrent log b
taken_on log b grown clash taken = elim (cases_Bool (is_inception b.event)) [
  | inl i ↦ record { up = inception_stands log b i; is = inl i }
  | inr i ↦ (let r = no_receipt (state log (prefix_of b.event)) b.event taken in
      record { up = current_stands log b grown clash i r taken; is = inr (current log b grown clash i r taken) })
]
