use Rattle.std.proofs.Common.{sym, subst, ◌∙◌, ap}
use Rattle.std.specs.Prelude.{is_some}
use Rattle.claim_table.specs.ClaimTable.Entries.{IsGapFor, IsPlaceOf, or_zero, part_entry}
use Rattle.claim_table.proofs.ClaimTableLemmas.Entries.{backers_insert, entered, entry_here, more_entered, same_amounts, sorted_insert}
use Rattle.claim_table.proofs.claim_table.body_counts.BodyCounts.enter.Goals as goal

pub invariant_of-self-in-Err : goal.invariant_of-self-in-Err
invariant_of-self-in-Err c =
    let es = c.self.inside.entries.items in let sorted = c.self.invariant.sorted in
    let gap = subst (λ es. IsGapFor es c.args.part c.in-Err.place) c.as_slice.ensures.value c.in-Err.ensures.absent in
    rw c.in_ok-insert-in-Err.ensures.items (record {
      sorted = sorted_insert es c.args.part c.in-Err.place 0 sorted gap;
      counted = c.self.invariant.counted ∙ sym (backers_insert es c.args.part c.in-Err.place sorted gap);
    })

pub returns-in-Ok-clause-entered : goal.returns-in-Ok-clause-entered
returns-in-Ok-clause-entered c = λ p h.
    let es = c.self.inside.entries.items in let at = subst (λ es. IsPlaceOf es c.args.part c.in-Ok.field-0) c.as_slice.ensures.value c.in-Ok.ensures.found in
    sym (ap (λ es. is_some (part_entry es p)) c.self.view_is) ∙ ap is_some (entry_here es c.args.part c.in-Ok.field-0 at.0 c.self.invariant.sorted at.1 p h)

pub returns-in_ok-insert-in-Err-clause-entered : goal.returns-in_ok-insert-in-Err-clause-entered
returns-in_ok-insert-in-Err-clause-entered c = λ p h.
    let gap = subst (λ es. IsGapFor es c.args.part c.in-Err.place) c.as_slice.ensures.value c.in-Err.ensures.absent in
    ap (λ es. is_some (part_entry es p)) c.in_ok-insert-in-Err.ensures.items ∙ entered c.self.inside.entries.items c.args.part c.in-Err.place c.self.invariant.sorted gap p h

pub returns-in_ok-insert-in-Err-clause-amounts : goal.returns-in_ok-insert-in-Err-clause-amounts
returns-in_ok-insert-in-Err-clause-amounts c = λ p.
    let gap = subst (λ es. IsGapFor es c.args.part c.in-Err.place) c.as_slice.ensures.value c.in-Err.ensures.absent in
    ap (λ es. or_zero (part_entry es p)) c.in_ok-insert-in-Err.ensures.items ∙ same_amounts c.self.inside.entries.items c.args.part c.in-Err.place c.self.invariant.sorted gap p
    ∙ ap (λ es. or_zero (part_entry es p)) c.self.view_is

pub returns-in_ok-insert-in-Err-clause-kept : goal.returns-in_ok-insert-in-Err-clause-kept
returns-in_ok-insert-in-Err-clause-kept c = λ p h.
    let gap = subst (λ es. IsGapFor es c.args.part c.in-Err.place) c.as_slice.ensures.value c.in-Err.ensures.absent in
    ap (λ es. is_some (part_entry es p)) c.in_ok-insert-in-Err.ensures.items
    ∙ more_entered c.self.inside.entries.items c.args.part c.in-Err.place c.self.invariant.sorted gap p (ap (λ es. is_some (part_entry es p)) c.self.view_is ∙ h)
