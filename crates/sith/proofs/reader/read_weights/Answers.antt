use Rattle.std.proofs.Common.{ℕ, List, [], ◌∷◌, length, ap, subst, sym, ◌∙◌, arith, map}
use Rattle.std.specs.List.{AllByRecursion}
use Rattle.json_tree.specs.declared.tree.Tree.TheVariants.{Str}
use Rattle.json_tree.proofs.Readers.{IfErr-handed_on}
use Rattle.sith.specs.declared.weight.Weight.{Weight}
use Rattle.sith.specs.Weights.{IsWeight}
use Rattle.sith.specs.Thresholds.{weight_value}
use Rattle.sith.proofs.FirstBad.{read_none, read_all, fault_next, weights_fault, single_same, singles}
use Rattle.sith.proofs.reader.read_weights.Goals as goal

pub loop-tree-init : goal.loop-tree-init
loop-tree-init c = read_none weight_value (λ (t : List ℕ). Str t) (λ t. t ∷ []) (λ (w : Weight). w ∷ []) single_same _ _ _ c.new-weights.ensures.items c.requires.number

pub returns-in_err-read_single-clause-fault : goal.returns-in_err-read_single-clause-fault
returns-in_err-read_single-clause-fault c =
    IfErr-handed_on _ _ _ c.from_residual.ensures.1
    (weights_fault _ _ _ (fault_next weight_value (λ (t : List ℕ). Str t) (λ t. t ∷ []) (λ (w : Weight). w ∷ []) single_same _ _ _ _ _ c.loop-tree.invariant c.tree-item.result c.loop-tree-test.true c.tree-item.is _ c.in_err-read_single.ensures.fault))

pub returns-clause-some : goal.returns-clause-some
returns-clause-some c =
    let all = read_all weight_value (λ (t : List ℕ). Str t) (λ t. t ∷ []) (λ (w : Weight). w ∷ []) single_same _ _ _ _ _ c.loop-tree.invariant c.loop-tree-test.false in
    (subst (AllByRecursion IsWeight) (singles _ ∙ sym c.from_vec.ensures) all.0, all.1 ∙ ap (map weight_value) (sym c.from_vec.ensures))

pub returns-clause-next : goal.returns-clause-next
returns-clause-next c =
    let counted = c.loop-tree.invariant.counted in
    let long = ap length (singles c.loop-tree.weights.items) in
    let same = ap length c.from_vec.ensures in
    omega (arith, counted, long, same)
