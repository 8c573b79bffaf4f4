use Rattle.std.proofs.Common.{inl, sym, ◌∙◌, arith}
use Rattle.std.proofs.lemmas.Bool.{le-leb, leb-true}
use Rattle.sith.proofs.Scales.{met_all}
use Rattle.sith.proofs.sum.sum_fault.Goals as goal

pub returns-then-sum_of_all-multiple : goal.returns-then-sum_of_all-multiple
returns-then-sum_of_all-multiple g c =
    let least = c.in-Some.ensures.some in
    let same = met_all _ c.in-Some.multiple c.requires least.0 least.2 in
    let sum = c.sum_of_all.ensures in
    let less = c.if-sum_of_all-multiple.true in
    (((c.in-Some.multiple, least.1, least.2, least.0.common), tt), inl (λ reached. omega (arith, less, sum, leb-true _ _ (same ∙ reached))))

pub returns-else-sum_of_all-multiple : goal.returns-else-sum_of_all-multiple
returns-else-sum_of_all-multiple g c =
    let least = c.in-Some.ensures.some in
    let same = met_all _ c.in-Some.multiple c.requires least.0 least.2 in
    let sum = c.sum_of_all.ensures in
    let enough = c.if-sum_of_all-multiple.false in
    (((c.in-Some.multiple, least.1, least.2, least.0.common), tt), (sym same ∙ le-leb _ _ (omega (arith, enough, sum)), tt))
