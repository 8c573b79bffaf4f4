use Rattle.std.proofs.Common.{◌≡◌, subst, sym, ap, ◌∙◌}
use Rattle.std.proofs.Math.Dec.{leb}
use Rattle.sith.specs.declared.threshold.Threshold.TheVariants.{Nested}
use Rattle.sith.specs.Rules.{IsReadFor}
use Rattle.sith.specs.Tests.{are_met, satisfied}
use Rattle.sith.proofs.ReadFor.{nested_met}
use Rattle.sith.proofs.threshold.Threshold.satisfied.Goals as goal

pub returns-in-Count : goal.returns-in-Count
unfolding satisfied
returns-in-Count c = ap (leb c.in-Count.count) c.count_keys.ensures ∙ ap (λ t. satisfied t c.args.keys c.args.indices.now) (sym c.in-Count.is)

pub returns-in-Flat : goal.returns-in-Flat
unfolding satisfied
returns-in-Flat c =
    c.are_met.ensures ∙ ap (λ clauses. are_met clauses 0 c.args.indices.now) c.from_ref.ensures.value ∙ ap (λ t. satisfied t c.args.keys c.args.indices.now) (sym c.in-Flat.is)

pub returns-in-Nested : goal.returns-in-Nested
returns-in-Nested c =
    let same : c.args.self.now ≡ Nested c.as_slice.result.now = cc (c.in-Nested.is, c.as_slice.ensures) in
    let read = subst (λ t. IsReadFor t c.args.keys) same c.requires in
    c.are_met-in-Nested.ensures ∙ nested_met c.as_slice.result.now c.args.keys c.args.indices.now read.0.0 ∙ ap (λ t. satisfied t c.args.keys c.args.indices.now) (sym same)
