use Rattle.std.proofs.Common.{◌≡◌, ◌+◌, false, true, None, Some, sym, subst, ◌∙◌, ap, arith}
use Rattle.std.specs.Prelude.{is_some, slice_get}
use Rattle.claim_table.specs.ClaimTable.Entries.{bit, or_zero, part_entry, same_part}
use Rattle.claim_table.proofs.ClaimTableLemmas.Entries.{counted, found, still_entered}
use Rattle.claim_table.proofs.claim_table.body_counts.BodyCounts.count.Goals as goal

pub overflow_add-count : goal.overflow_add-count
overflow_add-count c =
    let es = c.self.inside.entries.items in let at = subst (λ es. slice_get es c.in-Some.place ≡ Some (c.args.part, c.in-Some.count)) c.as_slice.ensures.value c.in-Some.ensures.found in
    let is = ap or_zero (found es c.args.part c.in-Some.place c.in-Some.count c.self.invariant.sorted at) in
    let same = ap (λ es. or_zero (part_entry es c.args.part)) c.self.view_is in omega (arith, is, same, c.requires.few)

pub returns-in-Some-clause-amounts : goal.returns-in-Some-clause-amounts
returns-in-Some-clause-amounts c = λ p.
    let es = c.self.inside.entries.items in let at = subst (λ es. slice_get es c.in-Some.place ≡ Some (c.args.part, c.in-Some.count)) c.as_slice.ensures.value c.in-Some.ensures.found in
    ap (λ es. or_zero (part_entry es p)) c.set_count.ensures.set ∙ counted es c.args.part c.in-Some.place c.in-Some.count c.self.invariant.sorted at p
    ∙ ap (λ es. or_zero (part_entry es p) + bit (same_part c.args.part p)) c.self.view_is

pub returns-in-Some-clause-kept : goal.returns-in-Some-clause-kept
returns-in-Some-clause-kept c = λ p.
    let es = c.self.inside.entries.items in let at = subst (λ es. slice_get es c.in-Some.place ≡ Some (c.args.part, c.in-Some.count)) c.as_slice.ensures.value c.in-Some.ensures.found in
    ap (λ es. is_some (part_entry es p)) c.set_count.ensures.set ∙ still_entered es c.args.part c.in-Some.place c.in-Some.count c.self.invariant.sorted at (c.in-Some.count + 1) p
    ∙ ap (λ es. is_some (part_entry es p)) c.self.view_is

pub returns-in_default-clause-amounts : goal.returns-in_default-clause-amounts
returns-in_default-clause-amounts c =
    let none : part_entry c.args.self.now c.args.part ≡ None = subst (λ es. part_entry es c.args.part ≡ None) (c.as_slice.ensures.value ∙ c.self.view_is) c.in_default.ensures.none in
    let no : false ≡ true = ap is_some (sym none) ∙ c.requires.entered in cc
