use Rattle.std.proofs.Common.{◌∙◌, ap, subst, sym}
use Rattle.validator_core.specs.Tables.Inside.{view_of}
use Rattle.validator_core.specs.Tables.View.{IsCut, mark_of}
use Rattle.validator_core.proofs.TablesLemmas.Marks.{mark_is, whole_is_cut}
use Rattle.validator_core.proofs.TablesLemmas.Pairs.{length-paired}
use Rattle.validator_core.proofs.tables.tables.Tables.mark.Goals as goal

pub returns-clause-mark : goal.returns-clause-mark
returns-clause-mark c =
    let t = c.self.inside in
    mark_is (view_of t) _ _ _ _ (c.len.ensures ∙ t.events.ok.0 ∙ sym (length-paired t.journal.bodies t.events.items c.self.invariant.0)) c.len-2.ensures c.len-3.ensures.numbers c.len-4.ensures ∙ ap mark_of c.self.view_is

pub returns-clause-whole : goal.returns-clause-whole
returns-clause-whole c =
    let h = c.self.invariant.2 in
    subst (λ m. IsCut m c.args.self.now) (sym (returns-clause-mark c)) (subst (λ v. IsCut (mark_of v) v) c.self.view_is (whole_is_cut (view_of c.self.inside) h.entries_held h.accepted_held h.released_held c.self.invariant.1))
