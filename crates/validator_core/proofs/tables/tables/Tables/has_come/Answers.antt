use Rattle.std.proofs.Common.{◌++◌, ◌∙◌, ap}
use Rattle.std.specs.List.{list_any}
use Rattle.journal.specs.Journal.Replies.{same_claim}
use Rattle.validator_core.specs.Tables.View.{came_with}
use Rattle.validator_core.proofs.TablesLemmas.Found.{come_found}
use Rattle.validator_core.proofs.TablesLemmas.Pairs.{event_at}
use Rattle.validator_core.proofs.tables.tables.Tables.has_come.Goals as goal

pub returns : goal.returns
returns c =
    let t = c.self.inside in
    c.came_by_either.ensures
    ∙ come_found c.self.invariant.2 t.events.items (event_at t.journal.bodies t.events.items c.self.invariant.0) c.args.body c.args.claim.now c.as_slice.result.now (c.few.result.now ++ c.many.result.now) c.as_slice.ensures (λ i. c.few.ensures.those i ++ c.many.ensures.those i)
    ∙ ap (λ v. list_any (same_claim c.args.claim.now) (came_with c.args.body v.entries)) c.self.view_is
