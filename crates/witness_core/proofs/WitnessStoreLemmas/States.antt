-- The states of a log of events that bodies spell.
use Rattle.std.proofs.Common.{◌≡◌, ◌<◌, ℕ, false, length, List, [], ◌∷◌, All, slice_get, Option, Some, None, refl, ◌∙◌, ap, subst, arith, inl, inr, length-append}
use Rattle.std.specs.Prelude.{fold, filter, IfSome}
use Rattle.std.specs.Result.{result_ok}
use Rattle.std.proofs.lemmas.Bool.{cases_Bool}
use Rattle.std.proofs.lemmas.List.Elements.{All-cons, All-head, All-nil, All-tail}
use Rattle.validator_core.specs.Acceptance.Standing.{IsHeld}
use Rattle.cesr_codes.specs.declared.prefix.Prefix.{Prefix}
use Rattle.claim_table.proofs.CoreLawsLemmas.Entries.{all_from}
use Rattle.event_body.specs.EventBody.Judging.{SpellsEvent}
use Rattle.event_body.specs.declared.event_body.event.Event.{Event}
use Rattle.event_body.specs.declared.event_body.event.Event.TheVariants.{Icp, Rot, Ixn, Dip, Drt, Rct}
use Rattle.event_body.specs.declared.event_body.rotation.Rotation.{Rotation}
use Rattle.journal_views.specs.EventPayload.Kept.{state_under}
use Rattle.journal.specs.declared.journal.body.Body.{Body}
use Rattle.journal.specs.Journal.Journals.{chosen}
use Rattle.journal.specs.Journal.Logs.{before, is_of, same_body, state, stepped}
use Rattle.journal.proofs.JournalLemmas.Places.{all_at}
use Rattle.key_state.specs.Kept.{IsKept}
use Rattle.key_state.specs.KeyStates.{begun, first, is_bad_change, misfit, moved, rotated}
use Rattle.key_state.specs.States.{State, IsState}
use Rattle.key_state.proofs.NoMisfit.{few_since, fits_list}
use Rattle.key_state.proofs.WitnessLists.{are_changed, few_changed}
use Rattle.validator_core.specs.ValidatorCore.View.{CoreView, IsSoundCore, accepted_by}
use Rattle.witness_core.specs.WitnessStore.Room.{IsKnown}
use Rattle.witness_core.proofs.WitnessStoreLemmas.Waits.{chosen_at}

-- an inception makes a state
first_is : (e : Event) → IsKept e → (s : State) → result_ok (first e) ≡ Some s → IsState s
first_is (Icp e) k s is = subst IsState (let one : begun e ≡ s = cc is in one) (record { kt_read = k.kt_read; nt_read = k.nt_read; few_keys = k.few_keys; few_next = k.few_next; few_witnesses = k.few_witnesses; witnesses = k.witnesses; since_some = omega arith; sn_held = omega arith })
first_is (Dip e) k s is = subst IsState (let one : begun e ≡ s = cc is in one) (record { kt_read = k.kt_read; nt_read = k.nt_read; few_keys = k.few_keys; few_next = k.few_next; few_witnesses = k.few_witnesses; witnesses = k.witnesses; since_some = omega arith; sn_held = omega arith })
first_is (Rot e) k s is = cc is
first_is (Ixn e) k s is = cc is
first_is (Drt e) k s is = cc is
first_is (Rct e) k s is = cc is

-- an event that follows makes another
rotated_is : (s : State) (e : Rotation) → is_bad_change s.list e ≡ false → IsKept (Rot e) → IsState s → IsState (rotated s e)
rotated_is s e good k is = record {
  kt_read = k.kt_read;
  nt_read = k.nt_read;
  few_keys = k.few_keys;
  few_next = k.few_next;
  few_witnesses = few_changed s.list e good;
  witnesses = are_changed s.list e good is.witnesses k.adds;
  since_some = omega arith;
  sn_held = omega (arith, k.sn_held);
}

moved_is : (s : State) (e : Event) → misfit s e ≡ None → IsKept e → IsState s → IsState (moved s e)
moved_is s (Rot e) none k is = rotated_is s e (fits_list s (Rot e) none) k is
moved_is s (Drt e) none k is = rotated_is s e (fits_list s (Drt e) none) k is
moved_is s (Ixn e) none k is = record {
  kt_read = is.kt_read;
  nt_read = is.nt_read;
  few_keys = is.few_keys;
  few_next = is.few_next;
  few_witnesses = is.few_witnesses;
  witnesses = is.witnesses;
  since_some = omega (arith, length-append s.since (e.said ∷ []));
  sn_held = omega (arith, length-append s.since (e.said ∷ []), few_since s e none k);
}
moved_is s (Icp e) none k is = is
moved_is s (Dip e) none k is = is
moved_is s (Rct e) none k is = is

if_none : (o : Option State) → ((s : State) → o ≡ Some s → IsState s) → IfSome o IsState
if_none None is = tt
if_none (Some s) is = is s refl

stepped_is : (o : Option State) (e : Event) → IsKept e → IfSome o IsState → IfSome (stepped o e) IsState
stepped_is None e k is = if_none (result_ok (first e)) (first_is e k)
stepped_is (Some s) e k is = by_misfit (misfit s e) refl
  where
    by_misfit : (o : Option _) → misfit s e ≡ o → IfSome (stepped (Some s) e) IsState
    by_misfit None none = rw none (moved_is s e none k is)
    by_misfit (Some m) some = rw some is

module _ (prefix : Prefix) where
  states_from : (o : Option State) → IfSome o IsState → (log : List Body) → All (λ b. IsKept b.event) log → IfSome (fold (λ s b. stepped s b.event) o (filter (is_of prefix) log)) IsState
  states_from o is [] kept = is
  states_from o is (b ∷ log) kept =
      let rest = All-tail (λ c. IsKept c.event) b log kept in
      elim (cases_Bool (is_of prefix b)) [
        | inl k ↦ rw k (states_from (stepped o b.event) (stepped_is o b.event (All-head (λ c. IsKept c.event) b log kept) is) log rest)
        | inr k ↦ rw k (states_from o is log rest)
      ]

  state_is : (log : List Body) → All (λ b. IsKept b.event) log → IfSome (state log prefix) IsState
  unfolding state
  state_is log kept = states_from None tt log kept

before_kept : (b : Body) (log : List Body) → All (λ c. IsKept c.event) log → All (λ c. IsKept c.event) (before b log)
unfolding before
before_kept b [] kept = All-nil (λ (c : Body). IsKept c.event)
before_kept b (c ∷ log) kept = elim (cases_Bool (same_body c b)) [
  | inl k ↦ rw k (All-nil (λ (c : Body). IsKept c.event))
  | inr k ↦ rw k (All-cons (λ (c : Body). IsKept c.event) c (before b log) (All-head (λ c. IsKept c.event) c log kept) (before_kept b log (All-tail (λ c. IsKept c.event) c log kept)))
]

some_so : (o : Option State) → IfSome o IsState → (s : State) → o ≡ Some s → IsState s
some_so o is s e = subst (λ p. IfSome p IsState) e is

-- the state under which an event of such a log was accepted is one
pub kept_under : (log : List Body) → All (λ b. IsKept b.event) log → (b : Body) (s : State) → state_under log b ≡ Some s → IsState s
kept_under log kept b = some_so (state_under log b) (state_is _ (before b log) (before_kept b log kept))

-- KEPT: the accepted events of a core are ones that bodies spell
pub kept_all : (core : CoreView) → IsSoundCore core → All (λ n. n < length core.held) core.accepted → chosen core.held core.accepted ≡ accepted_by core
    → ((event : Event) (bytes : List ℕ) → SpellsEvent event bytes → IsKept event) → All (λ b. IsKept b.event) (accepted_by core)
kept_all core stands low is spelled = all_from (λ c. IsKept c.event) (accepted_by core) (λ i c at.
    let found = chosen_at core.held core.accepted low i c (ap (λ l. slice_get l i) is ∙ at) in
    spelled c.event c.bytes (all_at IsHeld core.held stands.spelled found.0 c found.2).spelled)

-- STATES: the state under which an event of a core was accepted is one
pub under_is : (core : CoreView) → IsKnown core → ((event : Event) (bytes : List ℕ) → SpellsEvent event bytes → IsKept event) → (b : Body) (s : State) → state_under (accepted_by core) b ≡ Some s → IsState s
under_is core known spelled b s e = kept_under (accepted_by core) (kept_all core known.sound known.held known.accepted spelled) b s e
