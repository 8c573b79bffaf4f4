use Rattle.std.proofs.Common.{◌≡◌, sym, ap, subst, ◌∙◌, nat_eq, Contains, Some}
use Rattle.indexmap.specs.IndexMap.{get}
use Rattle.escrow.specs.Escrow.Escrow.{held}
use Rattle.escrow.proofs.EscrowLemmas.Held.{get-entries, some_of}
use Rattle.escrow.proofs.escrow.waiting.Waiting.named.Goals as goal

pub returns-clause-those : goal.returns-clause-those
returns-clause-those c = λ n.
    let inside = c.self.inside in
    let is : held n c.args.self.now ≡ get nat_eq inside.waiters n = sym (ap (held n) c.self.view_is) ∙ get-entries n inside.waiters.entries in
    let has = c.self.invariant.1 c.args.said.now n in (
      λ h. let w = has.0 (subst (λ ks. Contains ks n) c.numbers.ensures.those h) in (w.0, is ∙ w.1, some_of _ _ w.2),
      λ w. subst (λ ks. Contains ks n) (sym c.numbers.ensures.those) (has.1 (w.0, sym is ∙ w.1, ap (λ d. Some d) w.2)),
    )
