use Rattle.std.proofs.Common.{◌≡◌, sym, ap, subst, ◌∙◌, nat_eq, Contains}
use Rattle.indexmap.specs.IndexMap.{get}
use Rattle.escrow.specs.Escrow.Escrow.{held}
use Rattle.escrow.proofs.EscrowLemmas.Held.{get-entries}
use Rattle.escrow.proofs.escrow.waiting.Waiting.woken_by.Goals as goal

pub returns-clause-those : goal.returns-clause-those
returns-clause-those c = λ n.
    let inside = c.self.inside in
    let is : held n c.args.self.now ≡ get nat_eq inside.waiters n = sym (ap (held n) c.self.view_is) ∙ get-entries n inside.waiters.entries in
    let has = c.self.invariant.0 c.args.said.now n in (
      λ h. let w = has.0 (subst (λ ks. Contains ks n) c.numbers.ensures.those h) in (w.0, is ∙ w.1, w.2),
      λ w. subst (λ ks. Contains ks n) (sym c.numbers.ensures.those) (has.1 (w.0, sym is ∙ w.1, w.2)),
    )
