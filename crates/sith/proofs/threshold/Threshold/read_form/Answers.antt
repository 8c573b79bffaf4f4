use Rattle.std.proofs.Common.{◌≡◌, subst}
use Rattle.json_tree.specs.declared.tree.Tree.TheVariants.{List as TreeList}
use Rattle.sith.specs.Thresholds.{Spells}
use Rattle.sith.proofs.Spelled.{form_is_read}
use Rattle.sith.proofs.threshold.Threshold.read_form.Goals as goal

pub returns-in-List-clause-only : goal.returns-in-List-clause-only
returns-in-List-clause-only c threshold spells =
    let same : c.args.tree.now ≡ TreeList c.as_slice.result.now = cc (c.in-List.is, c.as_slice.ensures) in
    form_is_read c.read_list.result _ c.read_list.ensures.some c.read_list.ensures.fault threshold (subst (Spells threshold) same spells)
