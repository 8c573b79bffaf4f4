use Rattle.std.proofs.Common.{◌≡◌, ◌≢◌, ℕ, true, not, refl, inl, inr, sym, ap, subst, rules, tests}
use Rattle.std.specs.Prelude.{◌==◌, filter, Contains}
use Rattle.std.specs.List.Sorted.{IsStrictlyIncreasing}
use Rattle.std.proofs.lemmas.Bool.{cases_Bool}
use Rattle.std.proofs.lemmas.Bool.Decides.{Decides-eqb}
use Rattle.arrayvec.proofs.ArrayVecLemmas.{filter-from_retain}
use Rattle.std.proofs.lemmas.List.Kept.{IsStrictlyIncreasing-filter}
use Rattle.escrow.proofs.EventIndexLemmas.Orders.{Contains-filter}
use Rattle.escrow.proofs.event_index.rising.Rising.remove.Goals as goal

pub invariant_of-self : goal.invariant_of-self
invariant_of-self c =
    let kept : c.retain.new.self.items ≡ filter (λ k. not (k == c.args.number)) c.self.inside.numbers.items
    = filter-from_retain _ (λ k. not (k == c.args.number)) _ (λ x b f y k. search (rules, tests)) _ _ c.retain.ensures.filtered in
    subst IsStrictlyIncreasing (sym kept) (IsStrictlyIncreasing-filter (λ k. not (k == c.args.number)) c.self.inside.numbers.items c.self.invariant)

pub returns-clause-left : goal.returns-clause-left
returns-clause-left c = λ n.
    let number = c.args.number in
    let was : c.self.inside.numbers.items ≡ c.args.self.now.list = ap (λ r. r.list) c.self.view_is in
    let kept : c.retain.new.self.items ≡ filter (λ k. not (k == number)) c.self.inside.numbers.items
    = filter-from_retain _ (λ k. not (k == number)) _ (λ x b f y k. search (rules, tests)) _ _ c.retain.ensures.filtered in
    let some = Contains-filter (λ k. not (k == number)) c.self.inside.numbers.items n in (
      λ h. let both = some.0 (subst (λ xs. Contains xs n) kept h) in (λ e. absurd (other e both.0), subst (λ xs. Contains xs n) was both.1),
      λ h. subst (λ xs. Contains xs n) (sym kept) (some.1 (another h.0, subst (λ xs. Contains xs n) (sym was) h.1)),
    )
  where
    other : {n m : ℕ} → n ≡ m → not (n == m) ≡ true → ⊥
    other {n} {m} e t = let same = (Decides-eqb n m).1 e in cc (t, same)

    another : {n m : ℕ} → n ≢ m → not (n == m) ≡ true
    another {n} {m} apart = elim (cases_Bool (n == m)) [ inl t ↦ absurd (apart ((Decides-eqb n m).0 t)) | inr f ↦ rw f refl ]
