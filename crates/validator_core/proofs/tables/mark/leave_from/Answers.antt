use Rattle.std.proofs.Common.{◌≡◌, ◌<◌, ◌≤◌, ◌+◌, ℕ, ap, ◌∙◌, refl, sym, nat_le, nat_lt, None, Bool, arith, inl, inr, false, Option}
use Rattle.std.specs.Prelude.{◌&&◌, ◌==◌, if◌then◌else◌}
use Rattle.std.proofs.lemmas.Bool.{cases_eq, cases_lt, le-leb, le-ltb, lt-leb, lt-ltb}
use Rattle.escrow.specs.Escrow.Escrow.{held}
use Rattle.key_state.proofs.Same.{number_itself}
use Rattle.validator_core.proofs.TablesLemmas.Rows.{differ}
use Rattle.validator_core.proofs.tables.mark.leave_from.Goals as goal

-- whether a number is one of those that leave
abbrev within : ℕ → ℕ → ℕ → Bool
within from number n = nat_le from n && nat_lt n number

none_left : (from number n : ℕ) → number ≤ from → within from number n ≡ false
none_left from number n h = elim (cases_lt n from) [
  | inl low ↦ (let one = lt-leb from n low in rw one refl)
  | inr high ↦ (let one = le-leb from n high in let two = le-ltb n number (omega (arith, h, high)) in rw (one, two) refl)
]

all_left : (from to number n : ℕ) → from ≤ number → to ≤ number → (from ≤ to → number ≤ to) → (to < from → number ≡ from) → within from number n ≡ within from to n
all_left from to number n low past same first = elim (cases_lt to from) [
  | inl less ↦ (let one = first less in none_left from number n (omega (arith, one)) ∙ sym (none_left from to n (omega (arith, less))))
  | inr more ↦ (let top = same more in let one : number ≡ to = omega (arith, top, past) in ap (λ m. within from m n) one)
]

-- one more leaves
one_more : {X : Type 0} (from number n : ℕ) (o : Option X) → from ≤ number → (if n == number then None else (if within from number n then None else o)) ≡ (if within from (number + 1) n then None else o)
one_more from number n o low = elim (cases_eq n number) [
  | inl is ↦ (let one = number_itself number in let two = le-leb from number low in let three = lt-ltb number (number + 1) (omega arith) in rw is (rw (one, two, three) refl))
  | inr other ↦ (let one = differ n number other in elim (cases_lt n number) [
    | inl less ↦ (let two = lt-ltb n number less in let three = lt-ltb n (number + 1) (omega (arith, less)) in rw (one, two, three) refl)
    | inr more ↦ (let two = le-ltb n number more in let three = le-ltb n (number + 1) (omega (arith, more, other)) in rw (one, two, three) refl)
  ])
]

pub loop-number-init : goal.loop-number-init
loop-number-init c = record {
  left = λ n. let none = none_left c.args.from c.args.from n (omega arith) in rw none refl;
  first = λ h. refl;
}

pub loop-number-preserved : goal.loop-number-preserved
loop-number-preserved c = record {
  left = λ n. c.take_out.ensures.waiters n ∙ ap (λ o. if n == c.loop-number.number then None else o) (c.loop-number.invariant.left n)
      ∙ one_more c.args.from c.loop-number.number n (held n c.args.waiting.now) c.loop-number.auto.number;
  first = λ h. absurd (omega arith);
}

pub returns : goal.returns
returns c = λ n. let all = all_left c.args.from c.args.to c.loop-number.number n c.loop-number.auto.number c.loop-number-test.false c.loop-number.auto.number-end c.loop-number.invariant.first in
    c.loop-number.invariant.left n ∙ rw all refl
