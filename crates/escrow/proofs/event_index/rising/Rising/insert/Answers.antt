use Rattle.std.proofs.Common.{◌≡◌, arith, ap, sym, subst, rules}
use Rattle.std.specs.Prelude.{◌↔◌, ◌⊎◌, Contains, insert}
use Rattle.std.proofs.lemmas.Grind.{elements}
use Rattle.escrow.proofs.EventIndexLemmas.Orders.{Contains-insert}
use Rattle.escrow.proofs.event_index.rising.Rising.insert.Goals as goal

pub invariant_of-self : goal.invariant_of-self
invariant_of-self c =
    let is : c.insert.new.self.items ≡ insert c.self.inside.numbers.items c.place_of-place.result c.args.number = search rules in
    λ k h. grind (arith, elements, is)

pub returns : goal.returns
returns c = λ n.
    let was : c.self.inside.numbers.items ≡ c.args.self.now.list = ap (λ r. r.list) c.self.view_is in
    let is : c.insert.new.self.items ≡ insert c.self.inside.numbers.items c.place_of-place.result c.args.number = search rules in
    let all = Contains-insert c.self.inside.numbers.items c.place_of-place.result c.args.number n in
    subst (λ xs. Contains c.insert.new.self.items n ↔ ((n ≡ c.args.number) ⊎ Contains xs n)) was
    (subst (λ ys. Contains ys n ↔ ((n ≡ c.args.number) ⊎ Contains c.self.inside.numbers.items n)) (sym is) all)
