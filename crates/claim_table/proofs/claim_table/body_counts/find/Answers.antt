use Rattle.std.proofs.Common.{Some, sym, ◌∙◌, ap}
use Rattle.std.proofs.lemmas.Option.{get_or_from_slice_get}
use Rattle.claim_table.proofs.ClaimTableLemmas.Entries.{absent}
use Rattle.claim_table.proofs.claim_table.body_counts.find.Goals as goal

pub returns-in-Ok-clause-found : goal.returns-in-Ok-clause-found
returns-in-Ok-clause-found c =
    let at = c.in-Ok.ensures.found in
    at.1 ∙ ap (λ e. Some (c.args.part, e.1)) (sym (get_or_from_slice_get c.args.entries.now c.in-Ok.place (c.args.part, at.0) _ at.1))

pub returns-in-Err-clause-none : goal.returns-in-Err-clause-none
returns-in-Err-clause-none c = absent c.args.entries.now c.args.part c.in-Err.field-0 c.requires c.in-Err.ensures.absent
