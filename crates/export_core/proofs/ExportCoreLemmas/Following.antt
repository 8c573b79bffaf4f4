-- The keys and witnesses behind an event.
use Rattle.std.proofs.Common.{◌≡◌, true, false, Option, Some, None, refl, sym, ◌∙◌, ap, inl, inr}
use Rattle.std.specs.Prelude.{IsTrue}
use Rattle.std.proofs.lemmas.Bool.{cases_Bool}
use Rattle.cesr_codes.specs.declared.prefix.Prefix.{Prefix}
use Rattle.claim_table.proofs.CoreLawsLemmas.States.{none_is}
use Rattle.event_body.specs.declared.event_body.event.Event.{Event}
use Rattle.event_body.specs.declared.event_body.event.Event.TheVariants.{Icp, Rot, Ixn, Dip, Drt, Rct}
use Rattle.journal.specs.declared.journal.body.Body.{Body}
use Rattle.journal.specs.declared.journal.claim.Claim.{Claim}
use Rattle.journal.specs.declared.journal.claim.Claim.TheVariants.{Controller, Witness, Couple}
use Rattle.journal.specs.Journal.History.{triple_of}
use Rattle.journal.specs.Journal.Logs.{stepped, takes}
use Rattle.key_state.specs.Exposure.{Rules, own_rules, rules_of}
use Rattle.key_state.specs.Kept.{IsKept}
use Rattle.key_state.specs.KeyStates.{misfit}
use Rattle.key_state.specs.Same.{are_witnesses, same_prefix}
use Rattle.key_state.specs.States.{State}
use Rattle.key_state.proofs.NoMisfit.{fits_list}
use Rattle.key_state.proofs.Same.{same_prefix_is, same_prefix_itself}
use Rattle.key_state.proofs.WitnessLists.{are_changed}
use Rattle.export_core.specs.ExportCore.Signers.{own_signers, rules_by, signers_of}

pub prefix_turns : (p q : Prefix) → same_prefix p q ≡ same_prefix q p
prefix_turns p q = elim (cases_Bool (same_prefix p q)) [
  | inl h ↦ (let e = same_prefix_is p q h in ap (λ x. same_prefix x q) e ∙ ap (same_prefix q) (sym e))
  | inr h ↦ h ∙ sym (elim (cases_Bool (same_prefix q p)) as (λ _. same_prefix q p ≡ false) [
    | inl g ↦ (let e = same_prefix_is q p g in let yes : same_prefix p q ≡ true = ap (λ x. same_prefix x q) (sym e) ∙ same_prefix_itself q in absurd (cc (yes, h)))
    | inr g ↦ g
  ])
]

-- those of an event are those of its own rules
pub own_are : (o : Option State) (e : Event) → own_signers (signers_of (rules_of o)) e ≡ signers_of (own_rules o e)
own_are o (Icp e) = refl
own_are o (Dip e) = refl
own_are o (Rot e) = refl
own_are o (Drt e) = refl
own_are o (Ixn e) = refl
own_are o (Rct e) = refl

-- and those of the state behind it
pub behind_are : (o : Option State) (e : Event) → takes o e ≡ true → signers_of (rules_of (stepped o e)) ≡ signers_of (own_rules o e)
unfolding misfit
behind_are None (Icp e) t = refl
behind_are None (Dip e) t = refl
behind_are None (Rot e) t = cc
behind_are None (Drt e) t = cc
behind_are None (Ixn e) t = cc
behind_are None (Rct e) t = cc
behind_are (Some s) (Rot e) t = rw t refl
behind_are (Some s) (Drt e) t = rw t refl
behind_are (Some s) (Ixn e) t = rw t refl
behind_are (Some s) (Icp e) t = cc
behind_are (Some s) (Dip e) t = cc
behind_are (Some s) (Rct e) t = cc

-- the key of a claim depends on these alone
pub same_triples : (rules : Rules) (b : Body) (c : Claim) → triple_of (rules_by (signers_of rules)) b c ≡ triple_of rules b c
same_triples rules b (Controller s) = refl
same_triples rules b (Witness s) = refl
same_triples rules b (Couple key sig) = refl

-- FIXED: no witness of the event has a key that can be rotated
pub own_fixed : (o : Option State) (e : Event) → IsKept e → takes o e ≡ true → IsTrue (are_witnesses (rules_of o).witnesses) → IsTrue (are_witnesses (own_rules o e).witnesses)
own_fixed o (Icp e) kept t fixed = kept.witnesses
own_fixed o (Dip e) kept t fixed = kept.witnesses
own_fixed None (Rot e) kept t fixed = cc
own_fixed (Some s) (Rot e) kept t fixed = are_changed s.list e (fits_list s (Rot e) (none_is (misfit s (Rot e)) t)) fixed kept.adds
own_fixed None (Drt e) kept t fixed = cc
own_fixed (Some s) (Drt e) kept t fixed = are_changed s.list e (fits_list s (Drt e) (none_is (misfit s (Drt e)) t)) fixed kept.adds
own_fixed o (Ixn e) kept t fixed = fixed
own_fixed o (Rct e) kept t fixed = fixed
