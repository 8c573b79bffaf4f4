use Rattle.std.proofs.Common.{◌≡◌, ◌-◌, ◌<◌, ◌≤◌, ℕ, length, Some, sym, ◌∙◌, ap, inl, inr, arith}
use Rattle.std.specs.Prelude.{slice_get, slice_index_or}
use Rattle.std.proofs.lemmas.Bool.{cases_eq, cases_lt}
use Rattle.std.proofs.lemmas.Option.{slice_get-get_or}
use Rattle.validator_core.specs.Tables.AcceptedLog.Hints.{is_state_of}
use Rattle.validator_core.proofs.TablesLemmas.AcceptedLogLemmas.Hinted.{contained_at, found_greatest}
use Rattle.validator_core.proofs.tables.accepted_log.hints.last_at.Goals as goal

pub returns-then-is_state_at : goal.returns-then-is_state_at
returns-then-is_state_at c =
    let numbers = c.args.numbers.now in let i = c.loop-i.i in
    let within : i - 1 < length numbers = omega (arith, c.loop-i.auto.i, c.loop-i-test.true) in
    found_greatest (λ k. is_state_of c.args.prefix.now (slice_get c.args.states.now k)) numbers (i - 1) (slice_index_or numbers (i - 1) 0) c.requires.rising (slice_get-get_or numbers (i - 1) 0 within)
    (sym c.is_state_at.ensures ∙ c.if-is_state_at.true)
    (λ k m later at. c.loop-i.invariant k m (omega (arith, later, c.loop-i-test.true)) at)

pub loop-i-preserved : goal.loop-i-preserved
loop-i-preserved c k n low at =
    let numbers = c.args.numbers.now in let i = c.loop-i.i in
    let within : i - 1 < length numbers = omega (arith, c.loop-i.auto.i, c.loop-i-test.true) in
    elim (cases_eq k (i - 1)) [
      | inl same ↦ (let both : Some n ≡ Some (slice_index_or numbers (i - 1) 0) = sym at ∙ ap (slice_get numbers) same ∙ slice_get-get_or numbers (i - 1) 0 within in
          let is : n ≡ slice_index_or numbers (i - 1) 0 = cc in
          ap (λ n. is_state_of c.args.prefix.now (slice_get c.args.states.now n)) is ∙ sym c.is_state_at.ensures ∙ c.if-is_state_at.false)
      | inr other ↦ c.loop-i.invariant k n (above k i low other) at
    ]
  where
    above : (k i : ℕ) → i - 1 ≤ k → (k ≡ i - 1 → ⊥) → i ≤ k
    above k i low other = elim (cases_lt k i) [ inr ge ↦ ge | inl lt ↦ absurd (other (omega (arith, low, lt))) ]

pub returns : goal.returns
returns c n inside =
    let there = contained_at c.args.numbers.now n inside in
    c.loop-i.invariant there.0 n (omega (arith, c.loop-i-test.false)) there.1
