-- A run that begins with the events that an entry names looks at no more than those and the ones behind what it accepts.
use Rattle.std.proofs.Common.{◌≡◌, ℕ, zero, suc, ◌+◌, ◌≤◌, Bool, true, cond, ◌&&◌, ◌||◌, not, List, [], ◌∷◌, ◌++◌, length, Option, Some, None, refl, sym, ◌∙◌, ap, subst, inl, inr, arith}
use Rattle.std.specs.Prelude.{count_by, drop, slice_get}
use Rattle.std.specs.List.{list_any}
use Rattle.std.proofs.lemmas.Bool.{and_from, and_parts, cases_Bool, or_cases, or_left, or_right}
use Rattle.std.proofs.lemmas.List.{drop_at}
use Rattle.std.proofs.lemmas.List.Sums.{sum_by-le-sum_by}
use Rattle.validator_core.specs.Acceptance.ReadyRuns.{RunsOver, TakesFew, counted_on, looks_in}
use Rattle.validator_core.specs.Acceptance.Standing.{told_of}
use Rattle.claim_table.proofs.CoreLawsLemmas.Looks.{bound_once, ends_with}
use Rattle.claim_table.specs.CoreLaws.Looks.{IsClear, appended_in, is_counted}
use Rattle.claim_table.specs.CoreLaws.Standing.{HasNoClash}
use Rattle.claim_table.specs.CoreLaws.Waking.{holds_first_seal, is_anchored, is_there, is_waiting, may_wake, seals_first, wakes}
use Rattle.cesr_codes.specs.declared.prefix.Prefix.{Prefix}
use Rattle.validator_core.specs.Tables.View.{View, log_of}
use Rattle.event_body.specs.EventBody.Events.{prefix_of, said_of, is_delegated}
use Rattle.journal.specs.declared.journal.body.Body.{Body}
use Rattle.journal.specs.declared.journal.mode.Mode.{Mode}
use Rattle.journal.specs.Journal.Accepted.{accepted}
use Rattle.journal.specs.Journal.History.{Told, bodies}
use Rattle.journal.specs.Journal.Logs.{precedes, state}
use Rattle.journal.specs.Journal.Readiness.{is_local, is_ready}
use Rattle.journal.specs.Journal.Seals.{delegator_of, seals}
use Rattle.validator_core.proofs.TableChangesLemmas.Few.{few}
use Rattle.validator_core.proofs.TableChangesLemmas.Waking.{waited}
use Rattle.validator_core.specs.ValidatorCore.Looks.{most_looks, waits_behind, waits_with}
use Rattle.validator_core.specs.ValidatorCore.Tables.{HaveNoOthers, AcceptsFrom}

-- what passes one test passes another
count_more : {X : Type 0} (p q : X → Bool) (xs : List X) → ((x : X) → p x ≡ true → q x ≡ true) → count_by p xs ≤ count_by q xs
count_more p q xs more = sum_by-le-sum_by (λ x. cond (p x) 1 0) (λ x. cond (q x) 1 0) xs (λ x. elim (cases_Bool (p x)) [
  | inl k ↦ (let h = more x k in rw (k, h) (omega arith))
  | inr k ↦ rw k (omega arith)
])

-- no more steps are counted than there are
counted_few : (steps k : ℕ) → counted_on steps k ≤ steps + k
unfolding counted_on
counted_few steps zero = omega arith
counted_few steps (suc k) = let before = counted_few steps k in omega (arith, before)

module _ (mode : Mode) where
  -- AWAITS: what is woken waits, and the event stands right before it or holds its seal
  awaits : (log : List Body) (c b : Body) → wakes mode log c b ≡ true → (is_waiting log b ≡ true) × ((precedes b c || seals c.event b.event) ≡ true)
  awaits log c b woken =
      let front = (and_parts (may_wake mode log c b && is_there (log ++ c ∷ []) b) (is_anchored mode (log ++ c ∷ []) b) woken).0 in
      let may = (and_parts (may_wake mode log c b) (is_there (log ++ c ∷ []) b) front).0 in
      let parts = and_parts (is_waiting (log ++ c ∷ []) b) (precedes b c || (not (is_local mode) && seals_first log c b)) may in (
        waited log c b parts.0,
        elim (or_cases (precedes b c) (not (is_local mode) && seals_first log c b) parts.1) [
          | inl right ↦ or_left (precedes b c) (seals c.event b.event) right
          | inr sealing ↦ (let first = (and_parts (not (is_local mode)) (seals_first log c b) sealing).1 in
              or_right (precedes b c) (seals c.event b.event) (holds (delegator_of (state log (prefix_of b.event)) b.event) (and_parts (is_delegated b.event) _ first).1))
        ],
      )
    where
      holds : (o : Option Prefix) → holds_first_seal log c b o ≡ true → seals c.event b.event ≡ true
      holds None h = cc
      holds (Some d) h = (and_parts _ (seals c.event b.event) (and_parts _ _ h).0).1

  counted_waits : (log more : List Body) (b : Body) → is_counted (wakes mode) log more b ≡ true → waits_behind log more b ≡ true
  unfolding is_counted
  counted_waits log [] b h = cc
  counted_waits log (c ∷ more) b h = elim (or_cases (wakes mode log c b) (is_counted (wakes mode) (log ++ c ∷ []) more b) h) [
    | inl here ↦ (let a = awaits log c b here in
        and_from (is_waiting log b) (list_any (λ c. precedes b c || seals c.event b.event) (c ∷ more)) a.0 (or_left (precedes b c || seals c.event b.event) (list_any (λ c. precedes b c || seals c.event b.event) more) a.1))
    | inr there ↦ (let parts = and_parts (is_waiting (log ++ c ∷ []) b) (list_any (λ c. precedes b c || seals c.event b.event) more) (counted_waits (log ++ c ∷ []) more b there) in
        and_from (is_waiting log b) (list_any (λ c. precedes b c || seals c.event b.event) (c ∷ more)) (waited log c b parts.0) (or_right (precedes b c || seals c.event b.event) (list_any (λ c. precedes b c || seals c.event b.event) more) parts.1))
  ]

  -- BOUND: of a run over candidates
  abbrev IsBound : List Told → List Body → List Body → List ℕ → List Body → Type 0
  IsBound ts held log due end = (run : RunsOver mode ts held due log end) → IsClear end → TakesFew mode ts held due log end run
      → looks_in mode ts held due log end run ≤ length due + count_by (is_counted (wakes mode) log (appended_in (is_ready mode ts) (wakes mode) held run)) held

  run_bound : (base : List Body) (told : List Told) (t : Told) (ts : List Told) (held log end : List Body) (due : List ℕ) → ts ≡ told ++ t ∷ [] → held ≡ bodies base (told ++ t ∷ []) → log ≡ accepted mode base told
      → IsBound ts held log due end
  run_bound base told t ts held log end due told_is held_is log_is =
      let whole : IsBound (told ++ t ∷ []) (bodies base (told ++ t ∷ [])) (accepted mode base told) due end = λ run clear frugal. bound_once mode base told t due end run clear frugal in
      subst (λ ts. IsBound ts held log due end) (sym told_is)
      (subst (λ held. IsBound (told ++ t ∷ []) held log due end) (sym held_is)
      (subst (λ log. IsBound (told ++ t ∷ []) (bodies base (told ++ t ∷ [])) log due end) (sym log_is) whole))

  run_few : (ts : List Told) (held log end : List Body) (due : List ℕ) → IsBound ts held log due end → (run : RunsOver mode ts held due log end) → IsClear end → TakesFew mode ts held due log end run
      → looks_in mode ts held due log end run ≤ length due + count_by (waits_behind log (drop (length log) end)) held
  run_few ts held log end due bound run clear frugal =
      let more = appended_in (is_ready mode ts) (wakes mode) held run in
      let behind : drop (length log) end ≡ more = ap (drop (length log)) (ends_with (is_ready mode ts) (wakes mode) held run) ∙ drop_at log more (length log) refl in
      let woken = count_more (is_counted (wakes mode) log more) (waits_behind log more) held (counted_waits log more) in
      let few = bound run clear frugal in
      subst (λ new. looks_in mode ts held due log end run ≤ length due + count_by (waits_behind log new) held) (sym behind) (omega (arith, woken, few))

-- NAMED: no more numbers are due than events wait with the digest
due_few : (v : View) (number : ℕ) (due : List ℕ) (c : Body) → slice_get v.held number ≡ Some c → HaveNoOthers v number due → length due ≤ count_by (waits_with (log_of v) (said_of c.event)) v.held
due_few v number due c at only =
    let less = few (waits_with (log_of v) (said_of c.event)) v.held [] due only.rising (λ n has. inr (only.waits c n at has)) in
    omega (arith, less)

-- FEW: the steps of accepting what is ready
module _ (mode : Mode) (v after : View) (number steps steps_then : ℕ) (accepts : AcceptsFrom mode number v after steps steps_then) where
  abbrev pub looked : ℕ
  looked = looks_in mode (told_of v) v.held accepts.due (log_of v) (log_of after) accepts.ready.run

  pub accepts_few : (base : List Body) (told : List Told) (t : Told) (c : Body) → slice_get v.held number ≡ Some c → told_of v ≡ told ++ t ∷ [] → v.held ≡ bodies base (told ++ t ∷ []) → log_of v ≡ accepted mode base told
      → HasNoClash (log_of after) → steps_then ≤ steps + most_looks v.held (log_of v) (log_of after) (said_of c.event)
  accepts_few base told t c at told_is held_is log_is clear =
      let is = accepts.ready in
      let bound = run_bound mode base told t (told_of v) v.held (log_of v) (log_of after) accepts.due told_is held_is log_is in
      let looks = run_few mode (told_of v) v.held (log_of v) (log_of after) accepts.due bound is.run (is.sound.grown, clear) is.frugal in
      let named = due_few v number accepts.due c at accepts.no_others in
      omega (arith, looks, named, counted_few steps looked, is.steps_are)
