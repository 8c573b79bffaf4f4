use Rattle.std.proofs.Common.{rules, arith, ◌≡◌, ℕ, true, cond, List, Option, Some, None, sym, ap, ◌∙◌, subst, inl, inr, unwrap_or}
use Rattle.std.specs.Prelude.{Contains}
use Rattle.std.specs.declared.cmp.Ordering.{Ordering}
use Rattle.std.specs.BTreeMap.{is_at}
use Rattle.std.specs.BTreeMap.Entry.{map_with_value}
use Rattle.std.specs.Cmp.{IsTotalOrder}
use Rattle.std.specs.Map.{lookup}
use Rattle.std.proofs.lemmas.Cmp.{eq_by_cmp_equiv}
use Rattle.std.proofs.lemmas.Result.{on_ok_weaker}
use Rattle.std.proofs.lemmas.Bool.{cases_Bool}
use Rattle.escrow.specs.EventIndex.Keys.{numbers_in}
use Rattle.escrow.specs.EventIndex.Numbers.{Numbers}
use Rattle.escrow.proofs.EventIndexLemmas.Lookups.{alike}
use Rattle.escrow.proofs.event_index.index.Index.add.Goals as goal

-- where a number of an entry stays in what is written there, it stays everywhere
stays : {K : Type 0} {R : K → K → Ordering} → IsTotalOrder R → (old made new : List (K × Numbers)) (key : K) (written : Numbers) (n : ℕ) → new ≡ made
    → ((q : K) → lookup (is_at (R q)) made ≡ cond (is_at (R key) q) (Some written) (lookup (is_at (R q)) old))
    → (Contains (numbers_in (lookup (is_at (R key)) old)) n → Contains written.list n)
    → (q : K) → Contains (numbers_in (lookup (is_at (R q)) old)) n → Contains (numbers_in (lookup (is_at (R q)) new)) n
stays {R = R} o old made new key written n is_made updates more q h = subst (λ es. Contains (numbers_in (lookup (is_at (R q)) es)) n) (sym is_made) (elim (cases_Bool (is_at (R key) q)) [
  | inl k ↦ (let is = updates q in rw (is, k) (more (subst (λ o. Contains (numbers_in o) n) (alike o key q k old) h)))
  | inr k ↦ (let is = updates q in rw (is, k) h)
])

-- what is written there is there
is_there : {K : Type 0} {R : K → K → Ordering} → IsTotalOrder R → (old made new : List (K × Numbers)) (key : K) (written : Numbers) (n : ℕ) → new ≡ made
    → ((q : K) → lookup (is_at (R q)) made ≡ cond (is_at (R key) q) (Some written) (lookup (is_at (R q)) old))
    → Contains written.list n → Contains (numbers_in (lookup (is_at (R key)) new)) n
is_there {R = R} o old made new key written n is_made updates h =
    let own : is_at (R key) key ≡ true = (eq_by_cmp_equiv o).refl key in
    let is = updates key in
    subst (λ es. Contains (numbers_in (lookup (is_at (R key)) es)) n) (sym is_made) (rw (is, own) h)

-- a number of an entry is in the numbers that are written over, where there are any
in_entry : (o : Option Numbers) (none : Numbers) (n : ℕ) → Contains (numbers_in o) n → Contains (unwrap_or o none).list n
in_entry None none n h = absurd (omega (arith, h.1))
in_entry (Some those) none n h = h

pub returns-clause-added : goal.returns-clause-added
returns-clause-added g c =
    let written = c.replace_from.new.numbers in
    on_ok_weaker c.replace_from.result
    (λ there. is_there g.met.K.Ord.total c.args.self.now.numbers.entries (map_with_value c.in_ok-self.field-0 written).entries _ c.args.key written c.args.number (search (rules, c)) (c.in_ok-self.ensures.update.0 written).0 there)
    c.replace_from.ensures.added

pub returns-clause-kept : goal.returns-clause-kept
returns-clause-kept g c =
    let written = c.replace_from.new.numbers in
    let over = sym (c.or_insert-those.ensures.value ∙ ap (λ o. unwrap_or o c.new.result) c.in_ok-self.ensures.value) in
    λ q n low. stays g.met.K.Ord.total c.args.self.now.numbers.entries (map_with_value c.in_ok-self.field-0 written).entries _ c.args.key written n (search (rules, c)) (c.in_ok-self.ensures.update.0 written).0
    (λ h. c.replace_from.ensures.kept n low (subst (λ those. Contains those.list n) over (in_entry (lookup (is_at (g.K.Ord.cmp c.args.key)) c.args.self.now.numbers.entries) c.new.result n h))) q

pub returns-clause-level : goal.returns-clause-level
returns-clause-level g c =
    let written = c.replace_from.new.numbers in
    on_ok_weaker c.replace_from.result
    (λ there q. stays g.met.K.Ord.total c.args.self.now.numbers.entries (map_with_value c.in_ok-self.field-0 written).entries _ c.args.key written c.args.number (search (rules, c)) (c.in_ok-self.ensures.update.0 written).0 (λ h. there) q)
    c.replace_from.ensures.added
