-- What an event that fits makes of its identifier's state, and what it adds to the log.
use Rattle.std.proofs.Common.{◌≡◌, ℕ, ◌+◌, ◌<◌, ◌^◌, true, false, List, [], ◌∷◌, ◌++◌, Option, Some, None, Ok, Err, refl, sym, ◌∙◌, ap, subst, arith, is_none, if◌then◌else◌}
use Rattle.std.specs.Prelude.{slice_get, IsTrue, IfSome}
use Rattle.std.proofs.Math.Seq.{take-length}
use Rattle.event_body.specs.declared.event_body.event.Event.{Event}
use Rattle.event_body.specs.declared.event_body.event.Event.TheVariants.{Icp, Rot, Ixn, Dip, Drt, Rct}
use Rattle.event_body.specs.EventBody.Events.{is_interaction, prefix_of, said_of, sn_of}
use Rattle.key_state.specs.Heads.{head_sn}
use Rattle.key_state.specs.Kept.{IsKept}
use Rattle.key_state.specs.States.{State}
use Rattle.journal.specs.declared.journal.body.Body.{Body}
use Rattle.journal.specs.Journal.Grown.{IsGrown, fits}
use Rattle.journal.specs.Journal.Logs.{state, stepped, takes}
use Rattle.validator_core.specs.Tables.AcceptedLog.Cuts.{GrowsByInteraction, GrowsByState, IsLog}
use Rattle.validator_core.specs.Tables.AcceptedLog.Values.{Log, established, gone_onto, interacted, last_of, last_place, state_there, Extends as LogExtends}
use Rattle.validator_core.proofs.TablesLemmas.AcceptedLogLemmas.StateSteps.{GoesOnto, fits_parts, goes_onto}
use Rattle.claim_table.specs.declared.claim_table.row.Row.{Row}
use Rattle.validator_core.specs.Tables.View.{View, log_of, with_log, with_rows}
use Rattle.validator_core.specs.Acceptance.Standing.{Extends, AreSoundTables}
use Rattle.validator_core.proofs.AcceptanceLemmas.NewEvent.{log_then}
use Rattle.validator_core.specs.TableChanges.Entries.{IsLogged}
use Rattle.journal.proofs.JournalLemmas.Keeping.{IsGrown-push}
use Rattle.key_state.specs.KeyStates.{IsCauseIn, after, misfit, moved, ok_unless}
use Rattle.key_state.specs.declared.state_fault.Misfit.{Misfit}
use Rattle.key_state.specs.declared.state_fault.StateFault.{StateFault}
use Rattle.key_state.specs.declared.state_fault.StateFault.TheVariants.{Misfit as IsMisfit, OutOfMemory}
use Rattle.validator_core.specs.TableChanges.Turning.{IsAppended, MakesState}

-- a kept interaction's number is within bounds
kept_sn : (e : Event) → is_interaction e ≡ true → IsKept e → sn_of e < 2 ^ 64
kept_sn (Ixn e) going kept = kept
kept_sn (Icp e) going kept = cc
kept_sn (Rot e) going kept = cc
kept_sn (Dip e) going kept = cc
kept_sn (Drt e) going kept = cc
kept_sn (Rct e) going kept = cc

module _ (log : List Body) (v : Log) (is : IsLog log v) (b : Body) (fit : IsTrue (fits log b)) where
  -- TAKEN: the current state takes it
  pub taken : takes (last_of (prefix_of b.event) v.states) b.event ≡ true
  taken = ap (λ o. takes o b.event) (is.current (prefix_of b.event)) ∙ (fits_parts log b fit).taken

  -- MADE: and this is the state behind it
  pub made : (s : State) → is_interaction b.event ≡ false → stepped (last_of (prefix_of b.event) v.states) b.event ≡ Some s → MakesState log b s
  made s sets steps = record {
    sets = sets;
    makes = (fits_parts log b fit).step ∙ ap (λ o. stepped o b.event) (sym (is.current (prefix_of b.event))) ∙ steps;
  }

  -- ROOM: an interaction's number is within bounds
  pub has_room : IsKept b.event → is_interaction b.event ≡ true → IfSome (last_of (prefix_of b.event) v.states) (λ s. head_sn s + 1 < 2 ^ 64)
  has_room kept going =
      let goes = goes_onto (state log (prefix_of b.event)) b.event (fits_parts log b fit).taken going in
      let low = kept_sn b.event going kept in
      let next = goes.1.next in
      subst (λ o. IfSome o (λ s. head_sn s + 1 < 2 ^ 64)) (sym (is.current (prefix_of b.event) ∙ goes.1.was)) (omega (arith, low, next))

module _ (v w : View) (number : ℕ) (b : Body) (at : slice_get v.held number ≡ Some b) (is : IsLog (log_of v) v.log) (fit : IsTrue (fits (log_of v) b)) where
  pub appended_state : (entries : ℕ) (s : State) → MakesState (log_of v) b s → w ≡ with_log (established number entries s v.log) v → GrowsByState s v.log w.log → IsAppended b number v w
  appended_state entries s makes new grows = record {
    log = w.log;
    numbers = ap (λ (x : View). x.log.numbers) new;
    is_log = grows (log_of v) b is fit makes.sets makes.makes;
    new_is = new ∙ ap (λ l. with_log l v) (sym (ap (λ (x : View). x.log) new));
  }

  pub appended_interaction : (entries : ℕ) → is_interaction b.event ≡ true → w ≡ with_log (interacted number entries (prefix_of b.event) (said_of b.event) v.log) v
      → GrowsByInteraction (prefix_of b.event) (said_of b.event) v.log w.log → IsAppended b number v w
  appended_interaction entries going new grows = record {
    log = w.log;
    numbers = ap (λ (x : View). x.log.numbers) new ∙ gone_numbers (last_place (prefix_of b.event) v.log.states) goes.0 (is.current (prefix_of b.event) ∙ goes.1.was);
    is_log = grows (log_of v) b is fit going refl refl;
    new_is = new ∙ ap (λ l. with_log l v) (sym (ap (λ (x : View). x.log) new));
  }
    where
      goes : (s : State) × GoesOnto (state (log_of v) (prefix_of b.event)) b.event s
      goes = goes_onto (state (log_of v) (prefix_of b.event)) b.event (fits_parts (log_of v) b fit).taken going

      gone_numbers : (o : Option ℕ) (s : State) → state_there v.log.states o ≡ Some s → (gone_onto number entries (said_of b.event) o v.log).numbers ≡ v.log.numbers ++ number ∷ []
      gone_numbers None s e = cc
      gone_numbers (Some k) s e = refl

-- EXTENDS: the log alone is longer
pub extends_log : (v w : View) (log : Log) → w ≡ with_log log v → LogExtends v.log w.log → Extends v w
extends_log v w log new longer = subst (λ (x : View). Extends v x) (sym new) (record {
  held = take-length v.held;
  entries = take-length v.entries;
  log = subst (λ l. LogExtends v.log l) (ap (λ (x : View). x.log) new) longer;
  rows = take-length v.claims.rows;
  pending = refl;
  released = refl;
})

-- LOGGED: with the event the log is grown
pub logged_appended : (v w : View) (number : ℕ) (b : Body) → AreSoundTables v → slice_get v.held number ≡ Some b → IsTrue (fits (log_of v) b) → IsAppended b number v w → IsLogged w
logged_appended v w number b is at fit new =
    let same = log_then v is number b at new.log new.numbers new.is_log in
    subst IsLogged (sym new.new_is) (record {
      spelled = is.spelled;
      differ = is.differ;
      grown = subst IsGrown (sym same) (IsGrown-push (log_of v) b is.grown fit);
      log = subst (λ l. IsLog l new.log) (sym same) new.is_log;
    })

-- what an event makes of a state
pub after_steps : (s t : State) (e : Event) → after s e ≡ Ok t → stepped (Some s) e ≡ Some t
unfolding after
after_steps s t e is = by (misfit s e) is
  where
    by : (o : Option Misfit) → ok_unless o (moved s e) ≡ Ok t → (if is_none o then Some (moved s e) else Some s) ≡ Some t
    by None h = let one : moved s e ≡ t = cc in ap Some one
    by (Some m) h = cc

-- and there is no misfit where the state takes the event
pub taken_fault : (s : State) (e : Event) (fault : StateFault) → takes (Some s) e ≡ true → IsCauseIn (after s e) fault → fault ≡ OutOfMemory
unfolding after
taken_fault s e OutOfMemory fit cause = refl
taken_fault s e (IsMisfit m) fit cause = by (misfit s e) fit cause
  where
    by : (o : Option Misfit) → is_none o ≡ true → ok_unless o (moved s e) ≡ Err m → IsMisfit m ≡ OutOfMemory
    by None k h = cc
    by (Some n) k h = cc

-- the rows alone are others
pub only_rows : (v w : View) (rows : List Row) → w ≡ with_rows rows v → w ≡ with_rows w.claims.rows v
only_rows v w rows e = e ∙ ap (λ r. with_rows r v) (sym (ap (λ (x : View). x.claims.rows) e))
