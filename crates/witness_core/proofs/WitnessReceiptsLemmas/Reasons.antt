-- An event that isn't accepted waits for a reason.
use Rattle.std.proofs.Common.{◌≡◌, Bool, true, false, not, ◌&&◌, ◌||◌, List, [], ◌∷◌, Option, Some, None, is_none, is_some, refl}
use Rattle.std.proofs.lemmas.Bool.{not-false}
use Rattle.event_body.specs.EventBody.Events.{is_inception, is_receipt, prefix_of}
use Rattle.key_state.specs.KeyStates.{first_true}
use Rattle.journal.specs.declared.journal.why.Why.{Why}
use Rattle.journal.specs.declared.journal.body.Body.{Body}
use Rattle.journal.specs.declared.journal.mode.Mode.{Mode}
use Rattle.journal.specs.declared.journal.why.Why.TheVariants.{Never, Next, Predecessor, Receipts, Seal, Signatures}
use Rattle.journal.specs.Journal.History.{Told}
use Rattle.journal.specs.Journal.Logs.{is_in, predecessor, state, takes}
use Rattle.journal.specs.Journal.Readiness.{is_backed, is_local, is_ready, meets_before, meets_own, signed}
use Rattle.journal.specs.Journal.Seals.{anchored}
use Rattle.journal.specs.Journal.Waiting.{is_lost, reason_under, why_waits}
use Rattle.validator_core.proofs.AcceptanceLemmas.Reasons.{there_taken}

-- one that is an inception, or has a predecessor, is there
there : {X : Type 0} (first : Bool) (o : Option X) → (not first && is_none o) ≡ false → (first || is_some o) ≡ true
there true o h = refl
there false None h = cc
there false (Some x) h = refl

last : (near backed sealed : Bool) → (not near && not backed) ≡ false → (not near && not sealed) ≡ false → (near || (backed && sealed)) ≡ true
last true backed sealed h k = refl
last false true true h k = refl
last false true false h k = cc
last false false sealed h k = cc

-- the first test isn't true where none is
none_true : {X : Type 0} (so : Bool) (x : X) (rest : List (Bool × X)) → first_true ((so, x) ∷ rest) ≡ None → (so ≡ false) × (first_true rest ≡ None)
none_true true x rest h = cc
none_true false x rest h = (refl, h)

module _ (mode : Mode) (told : List Told) (log : List Body) (b : Body) where
  ready : reason_under mode told log (state log (prefix_of b.event)) b ≡ None → is_receipt b.event ≡ false → is_in log b ≡ false → is_ready mode told log b ≡ true
  unfolding is_ready signed
  ready none event out =
      let s = state log (prefix_of b.event) in
      let sealed : List (Bool × Why) = (not (is_local mode) && not (anchored log s b.event), Seal) ∷ [] in
      let backed : List (Bool × Why) = (not (is_local mode) && not (is_backed told s b), Receipts) ∷ sealed in
      let revealed : List (Bool × Why) = (not (meets_before told s b), Next) ∷ backed in
      let met : List (Bool × Why) = (not (meets_own told s b), Signatures) ∷ revealed in
      let there_before : List (Bool × Why) = (not (is_inception b.event) && is_none (predecessor log b), Predecessor) ∷ met in
      let lost = none_true (is_lost mode log s b) Never there_before none in
      let behind = none_true (not (is_inception b.event) && is_none (predecessor log b)) Predecessor met lost.1 in
      let own = none_true (not (meets_own told s b)) Signatures revealed behind.1 in
      let next = none_true (not (meets_before told s b)) Next backed own.1 in
      let receipts = none_true (not (is_local mode) && not (is_backed told s b)) Receipts sealed next.1 in
      let seal = none_true (not (is_local mode) && not (anchored log s b.event)) Seal [] receipts.1 in
      let taken : takes s b.event ≡ true = there_taken mode told log b s lost.0 (there (is_inception b.event) (predecessor log b) behind.0) in
      let own_met = not-false _ own.0 in
      let next_met = not-false _ next.0 in
      rw (event, out, taken, own_met, next_met) (last (is_local mode) (is_backed told s b) (anchored log s b.event) receipts.0 seal.0)

  -- WAITS: where no reason is given, it is ready
  pub no_reason : why_waits mode told log b ≡ None → is_receipt b.event ≡ false → is_in log b ≡ false → is_ready mode told log b ≡ true
  unfolding why_waits
  no_reason none event out = ready (rw (event, out) at none) event out
