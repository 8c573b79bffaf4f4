use Rattle.std.proofs.Common.{◌<◌, ◌≤◌, length, ◌-◌, refl, sym, ◌∙◌, ap, inl, inr, arith, rules}
use Rattle.std.proofs.lemmas.Bool.{cases_Bool}
use Rattle.std.proofs.lemmas.Option.{slice_get_past, slice_get_read}
use Rattle.claim_table.specs.ClaimTable.Counts.{amount, is_one}
use Rattle.claim_table.specs.ClaimTable.Entries.{bit, or_zero}
use Rattle.claim_table.proofs.ClaimTableLemmas.Places.{nothing_there, same_entries, uncounted}
use Rattle.claim_table.proofs.claim_table.part_counts.PartCounts.uncount_one.Goals as goal

pub returns-in-Some-get_mut-clause-amounts : goal.returns-in-Some-get_mut-clause-amounts
returns-in-Some-get_mut-clause-amounts c = λ q.
    let lt : c.args.body < length c.args.self.now.counts.items = search rules in
    let at = slice_get_read c.args.self.now.counts.items (length c.args.self.now.counts.items) c.args.body c.in-Some-get_mut.counts.now refl lt c.in-Some-get_mut.ensures.value in
    uncounted c.args.self.now.counts.items c.args.body c.in-Some.part c.in-Some-get_mut.counts.now c.uncount.new.self at c.uncount.ensures.amounts q
    ∙ ap (λ o. amount c.args.self.now q - bit (is_one c.args.body o q)) (sym c.in-Some.is)

pub returns-in-Some-get_mut-clause-kept : goal.returns-in-Some-get_mut-clause-kept
returns-in-Some-get_mut-clause-kept c = λ q.
    let lt : c.args.body < length c.args.self.now.counts.items = search rules in
    let at = slice_get_read c.args.self.now.counts.items (length c.args.self.now.counts.items) c.args.body c.in-Some-get_mut.counts.now refl lt c.in-Some-get_mut.ensures.value in
    same_entries c.args.self.now.counts.items c.args.body c.in-Some.part c.in-Some-get_mut.counts.now c.uncount.new.self at c.uncount.ensures.kept q

pub returns-in_default-get_mut-clause-amounts : goal.returns-in_default-get_mut-clause-amounts
returns-in_default-get_mut-clause-amounts c = λ q.
    let past : length c.args.self.now.counts.items ≤ c.args.body = search rules in
    let none = slice_get_past c.args.self.now.counts.items c.args.body past in
    elim (cases_Bool (is_one c.args.body c.args.part q)) [
      | inl one ↦ (let zero_then = ap or_zero (nothing_there c.args.self.now.counts.items c.args.body c.args.part none q one) in omega (arith, zero_then))
      | inr other ↦ (let is = ap bit other in omega (arith, is))
    ]
