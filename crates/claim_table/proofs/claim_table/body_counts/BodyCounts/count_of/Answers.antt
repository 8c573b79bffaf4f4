use Rattle.std.proofs.Common.{sym, subst, ◌∙◌, ap, ◌≡◌, Some}
use Rattle.std.specs.Prelude.{slice_get}
use Rattle.claim_table.specs.ClaimTable.Entries.{part_entry}
use Rattle.claim_table.proofs.ClaimTableLemmas.Entries.{found}
use Rattle.claim_table.proofs.claim_table.body_counts.BodyCounts.count_of.Goals as goal

pub returns-in-Some : goal.returns-in-Some
returns-in-Some c =
    let es = c.self.inside.entries.items in let at = subst (λ es. slice_get es c.in-Some.at.0 ≡ Some (c.args.part, c.in-Some.at.1)) c.as_slice.ensures.value c.in-Some.ensures.found in
    sym (found es c.args.part c.in-Some.at.0 c.in-Some.at.1 c.self.invariant.sorted at) ∙ ap (λ es. part_entry es c.args.part) c.self.view_is

pub returns-in-None : goal.returns-in-None
returns-in-None c = sym c.in-None.ensures.none ∙ ap (λ es. part_entry es c.args.part) (c.as_slice.ensures.value ∙ c.self.view_is)
