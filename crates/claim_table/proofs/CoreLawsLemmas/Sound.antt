-- What a body stands on as the list grows, and the rules of what a state takes.
use Rattle.std.proofs.Common.{◌≡◌, Bool, true, false, not, ◌&&◌, ◌||◌, [], ◌∷◌, ◌++◌, Some, None, refl, sym, ◌∙◌, ap, inl, inr}
use Rattle.std.proofs.lemmas.Bool.{cases_Bool}
use Rattle.event_body.specs.declared.event_body.event.Event.TheVariants.{Icp, Rot, Ixn, Dip, Drt, Rct}
use Rattle.event_body.specs.EventBody.Events.{prefix_of, is_receipt}
use Rattle.key_state.specs.Exposure.{own_rules}
use Rattle.key_state.specs.KeyStates.{misfit}
use Rattle.key_state.proofs.WitnessLists.{are_changed}
use Rattle.journal.specs.Journal.Logs.{is_in, state, takes}
use Rattle.journal.specs.Journal.Readiness.{is_ready, is_local, is_backed, signed}
use Rattle.journal.specs.Journal.Seals.{anchored}
use Rattle.claim_table.proofs.CoreLawsLemmas.Predecessors.{state_before-next, state_before-none}
use Rattle.claim_table.specs.CoreLaws.Standing.{BehindLaw, SoundLaw, ReadyKeptLaw}
use Rattle.journal.specs.EventRules.Parts.{has_signed, has_backed}
use Rattle.claim_table.proofs.CoreLawsLemmas.Enough.{ready_is}
use Rattle.claim_table.proofs.CoreLawsLemmas.Woken.{parts_of}
use Rattle.claim_table.proofs.CoreLawsLemmas.NextEvents.{rules_of_taken}

-- BEHIND
pub behind : BehindLaw
behind log c b none outside = record {
  stands_on_it = λ before. state_before-next log c b none before outside ∙ ap (state (log ++ c ∷ [])) (parts_of b c before).0;
  stays = λ other. state_before-none log c b none other;
}

-- SOUND
pub sound : SoundLaw
unfolding misfit
sound o (Icp e) kept state h = record { kt_read = kept.kt_read; witnesses = kept.witnesses }
sound o (Dip e) kept state h = record { kt_read = kept.kt_read; witnesses = kept.witnesses }
sound None (Rot e) kept state h = cc
sound None (Drt e) kept state h = cc
sound None (Ixn e) kept state h = cc
sound None (Rct e) kept state h = cc
sound (Some s) (Rot e) kept state h =
    record { kt_read = kept.kt_read; witnesses = are_changed s.list e (rules_of_taken s (Rot e) h).1.1.1.1.1.0 state.witnesses kept.adds }
sound (Some s) (Drt e) kept state h =
    record { kt_read = kept.kt_read; witnesses = are_changed s.list e (rules_of_taken s (Drt e) h).1.1.1.1.1.0 state.witnesses kept.adds }
sound (Some s) (Ixn e) kept state h = record { kt_read = state.kt_read; witnesses = state.witnesses }
sound (Some s) (Rct e) kept state h = cc

-- what isn't taken isn't ready, by whatever set
not_taken : (first takes_it signs rest : Bool) → takes_it ≡ false → (first && (takes_it && signs && rest)) ≡ false
not_taken true true signs rest h = cc
not_taken false true signs rest h = cc
not_taken true false signs rest h = refl
not_taken false false signs rest h = refl

-- READY
pub ready_kept : ReadyKeptLaw
unfolding is_ready
ready_kept mode told log b has kept is same =
    let s = state log (prefix_of b.event) in
    elim (cases_Bool (takes s b.event)) [
      | inl k ↦ ready_is mode told log b has (sound s b.event kept is k) same
      | inr k ↦ not_taken (not (is_receipt b.event) && not (is_in log b)) (takes s b.event) (signed told s b) (is_local mode || (is_backed told s b && anchored log s b.event)) k
          ∙ sym (not_taken (not (is_receipt b.event) && not (is_in log b)) (takes s b.event) (has_signed has s b.event) (is_local mode || (has_backed has (own_rules s b.event) && anchored log s b.event)) k)
    ]
