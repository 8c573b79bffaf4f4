use Rattle.std.proofs.Common.{◌++◌, ◌∷◌, [], Option, ℕ, cond, true, sym, ◌∙◌, ap, arith}
use Rattle.std.specs.BTreeMap.{is_at}
use Rattle.std.specs.BTreeSet.{contains}
use Rattle.std.proofs.lemmas.Bool.{not-false, not-true}
use Rattle.journal_views.specs.EventPayload.Holding.{part_cmp}
use Rattle.journal_views.proofs.EventPayloadLemmas.Adding.{held_new, held_old, pushed}
use Rattle.journal_views.proofs.event_payload.kept.Kept.add.Goals as goal

pub returns-then-branch-clause-kept : goal.returns-then-branch-clause-kept
returns-then-branch-clause-kept c = λ s e came is held.
    let sig = c.args.sig in
    let parts = c.args.self.now.parts in
    held_new s e came sig c.args.self.now _ held
    (λ p. c.in_ok-insert.ensures.updates.0 p ∙ ap (λ (r : Option ℕ). cond (is_at (part_cmp (record { index = sig.index; reveal = r })) p) true (contains part_cmp parts p)) is)
    (ap (λ (r : Option ℕ). contains part_cmp parts (record { index = sig.index; reveal = r })) (sym is) ∙ not-true _ (sym c.in_ok-insert.ensures.added ∙ c.if-branch.true))
    c.is_indexed.ensures
    (pushed c.push.result _ _ _ (c.push.ensures.succeeds (omega (arith, c.in_ok-reserve.ensures.ok))) c.push.ensures.items ∙ ap (λ xs. xs ++ sig ∷ []) c.reserve.ensures.items)

pub returns-else-branch-clause-kept : goal.returns-else-branch-clause-kept
returns-else-branch-clause-kept c = λ s e came is held.
    let sig = c.args.sig in
    let parts = c.args.self.now.parts in
    held_old s e came sig c.args.self.now _ held
    (λ p. c.in_ok-insert.ensures.updates.0 p ∙ ap (λ (r : Option ℕ). cond (is_at (part_cmp (record { index = sig.index; reveal = r })) p) true (contains part_cmp parts p)) is)
    (ap (λ (r : Option ℕ). contains part_cmp parts (record { index = sig.index; reveal = r })) (sym is) ∙ not-false _ (sym c.in_ok-insert.ensures.added ∙ c.if-branch.false))
    c.reserve.ensures.items
