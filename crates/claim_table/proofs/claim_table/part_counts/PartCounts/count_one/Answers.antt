use Rattle.std.proofs.Common.{◌≡◌, ◌<◌, ◌≤◌, length, ◌+◌, ◌^◌, ◌-◌, true, false, refl, sym, ◌∙◌, ap, subst, inl, inr, arith, rules}
use Rattle.std.specs.Prelude.{is_some}
use Rattle.std.proofs.lemmas.Bool.{cases_Bool}
use Rattle.std.proofs.lemmas.Option.{slice_get_past, slice_get_read}
use Rattle.claim_table.specs.ClaimTable.BodyParts.{BodyPart}
use Rattle.claim_table.specs.ClaimTable.Counts.{amount, entry_at, is_one}
use Rattle.claim_table.specs.ClaimTable.Entries.{bit, or_zero}
use Rattle.claim_table.proofs.ClaimTableLemmas.Places.{counted, nothing_there, one_itself, same_entries}
use Rattle.claim_table.proofs.claim_table.part_counts.PartCounts.count_one.Goals as goal

pub count-requires-clause-entered : goal.count-requires-clause-entered
count-requires-clause-entered c =
    let lt : c.args.body < length c.args.self.now.counts.items = search rules in
    let at = slice_get_read c.args.self.now.counts.items (length c.args.self.now.counts.items) c.args.body c.in-Some-get_mut.counts.now refl lt c.in-Some-get_mut.ensures.value in
    let q : BodyPart = record { body = c.args.body; part = c.in-Some.part } in
    ap (λ o. is_some (entry_at o c.in-Some.part)) (sym at) ∙ c.requires.entered q (ap (λ o. is_one c.args.body o q) c.in-Some.is ∙ one_itself c.args.body c.in-Some.part)

pub count-requires-clause-few : goal.count-requires-clause-few
count-requires-clause-few c =
    let lt : c.args.body < length c.args.self.now.counts.items = search rules in
    let at = slice_get_read c.args.self.now.counts.items (length c.args.self.now.counts.items) c.args.body c.in-Some-get_mut.counts.now refl lt c.in-Some-get_mut.ensures.value in
    let q : BodyPart = record { body = c.args.body; part = c.in-Some.part } in
    subst (λ o. or_zero (entry_at o c.in-Some.part) < 2 ^ 32 - 1) at (c.requires.few q (ap (λ o. is_one c.args.body o q) c.in-Some.is ∙ one_itself c.args.body c.in-Some.part))

pub returns-in-Some-get_mut-clause-amounts : goal.returns-in-Some-get_mut-clause-amounts
returns-in-Some-get_mut-clause-amounts c = λ q.
    let lt : c.args.body < length c.args.self.now.counts.items = search rules in
    let at = slice_get_read c.args.self.now.counts.items (length c.args.self.now.counts.items) c.args.body c.in-Some-get_mut.counts.now refl lt c.in-Some-get_mut.ensures.value in
    counted c.args.self.now.counts.items c.args.body c.in-Some.part c.in-Some-get_mut.counts.now c.count.new.self at c.count.ensures.amounts q
    ∙ ap (λ o. amount c.args.self.now q + bit (is_one c.args.body o q)) (sym c.in-Some.is)

pub returns-in-Some-get_mut-clause-kept : goal.returns-in-Some-get_mut-clause-kept
returns-in-Some-get_mut-clause-kept c = λ q.
    let lt : c.args.body < length c.args.self.now.counts.items = search rules in
    let at = slice_get_read c.args.self.now.counts.items (length c.args.self.now.counts.items) c.args.body c.in-Some-get_mut.counts.now refl lt c.in-Some-get_mut.ensures.value in
    same_entries c.args.self.now.counts.items c.args.body c.in-Some.part c.in-Some-get_mut.counts.now c.count.new.self at c.count.ensures.kept q

pub returns-in_default-get_mut-clause-amounts : goal.returns-in_default-get_mut-clause-amounts
returns-in_default-get_mut-clause-amounts c = λ q.
    let past : length c.args.self.now.counts.items ≤ c.args.body = search rules in
    let none = slice_get_past c.args.self.now.counts.items c.args.body past in
    elim (cases_Bool (is_one c.args.body c.args.part q)) [
      | inl one ↦ (let no : false ≡ true = ap is_some (sym (nothing_there c.args.self.now.counts.items c.args.body c.args.part none q one)) ∙ c.requires.entered q one in cc)
      | inr other ↦ (let is = ap bit other in omega (arith, is))
    ]
