use Rattle.std.proofs.Common.{◌≡◌, ℕ, List, [], None, Some, ap, ◌∙◌, nat_eq, sym, subst, arith}
use Rattle.std.specs.Prelude.{Contains, Option}
use Rattle.std.specs.Map.{lookup}
use Rattle.cesr_codes.specs.declared.digest.Digest.{Digest}
use Rattle.escrow.specs.declared.escrow.waiter.Waiter.{Waiter}
use Rattle.escrow.specs.Escrow.Tables.{HasNumbers}
use Rattle.indexmap.specs.IndexMap as by_number
use Rattle.std.specs.Ordering.{nat_cmp}
use Rattle.std.specs.FinMap.{from_entries, get, get-empty}
use Rattle.escrow.proofs.escrow.waiting.Waiting.new.Goals as goal

-- where no event waits, there are no numbers
has-none : (key : Waiter → Option Digest) (at : ℕ → Option Waiter) (numbers : Digest → List ℕ) → ((n : ℕ) → at n ≡ None) → ((d : Digest) → numbers d ≡ []) → HasNumbers key at numbers
has-none key at numbers none empty d n = (
  λ h. let no : Contains [] n = subst (λ ks. Contains ks n) (empty d) h in absurd (omega (arith, no.1)),
  λ w. let no : None ≡ Some w.0 = sym (none n) ∙ w.1 in cc,
)

pub invariant_of-result : goal.invariant_of-result
invariant_of-result c =
    let none : (n : ℕ) → by_number.get nat_eq c.new.result n ≡ None = λ n. ap (lookup (nat_eq n)) c.new.ensures.empty in (
      has-none (λ v. v.prior) (by_number.get nat_eq c.new.result) _ none c.new-2.ensures,
      has-none (λ v. Some v.said) (by_number.get nat_eq c.new.result) _ none c.new-3.ensures,
      λ r e. let no : ⊥ = cc e in absurd no,
    )

pub returns-clause-waiters : goal.returns-clause-waiters
returns-clause-waiters c = λ n. ap (λ es. get (from_entries {R = nat_cmp} es) n) c.new.ensures.empty ∙ get-empty nat_cmp n
