use Rattle.std.proofs.Common.{◌≡◌, ℕ, List, ◌∷◌, [], subst, sym, ◌∙◌}
use Rattle.json_tree.specs.declared.tree.Tree.TheVariants.{Str, List as TreeList}
use Rattle.json_tree.proofs.Readers.{IfErr-handed_on}
use Rattle.sith.specs.Thresholds.{IsWeightFault, texts_value}
use Rattle.sith.proofs.FirstBad.{outer_fault, inner_fault}
use Rattle.sith.proofs.Values.{members_written}
use Rattle.sith.proofs.reader.read_group.Goals as goal

pub returns-in_err-outer-clause-fault : goal.returns-in_err-outer-clause-fault
returns-in_err-outer-clause-fault c =
    let fault = c.in_err-outer.field-0.0 in
    IfErr-handed_on _ _ _ c.from_residual.ensures.1
    (outer_fault c.args.member.now c.args.number.now fault (subst (λ text. IsWeightFault (λ (t : List ℕ). Str t) (λ t. t ∷ []) (Str text) c.args.number.now fault) c.as_slice.ensures c.in_err-outer.ensures.fault))

pub read_weights-requires-clause-form : goal.read_weights-requires-clause-form
read_weights-requires-clause-form c =
    let same : c.args.member.now.value ≡ TreeList c.as_slice-in-List.result.now = cc (c.in-List.is, c.as_slice-in-List.ensures) in
    members_written (λ (t : List ℕ). Str t) _ _ same c.requires.form

pub returns-in_err-inner-in-List-clause-fault : goal.returns-in_err-inner-in-List-clause-fault
returns-in_err-inner-in-List-clause-fault c =
    let same : TreeList c.as_slice-in-List.result.now ≡ c.args.member.now.value = cc (c.in-List.is, c.as_slice-in-List.ensures) in
    let fault = c.in_err-inner-in-List.field-0.0 in
    let outer = c.in_ok-outer.ensures in
    IfErr-handed_on _ _ _ c.from_residual-in_err-inner-in-List.ensures.1
    (inner_fault c.args.member.now c.args.number.now c.in_ok-outer.outer c.read_weight.new.number fault outer.some.0 (sym c.as_slice.ensures ∙ outer.some.1) outer.next (subst (λ tree. IsWeightFault texts_value (λ texts. texts) tree c.read_weight.new.number fault) same c.in_err-inner-in-List.ensures.fault))
