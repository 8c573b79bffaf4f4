use Rattle.std.proofs.Common.{◌≡◌}
use Rattle.json_tree.specs.declared.tree.Tree.TheVariants.{List as TreeList}
use Rattle.sith.specs.Thresholds.{written_value}
use Rattle.sith.proofs.Values.{list_written}
use Rattle.sith.proofs.form.is_clause.Goals as goal

pub returns-in-List : goal.returns-in-List
returns-in-List c =
    let same : c.args.tree.now ≡ TreeList c.as_slice.result.now = cc (c.in-List.is, c.as_slice.ensures) in
    list_written written_value _ _ _ same c.are_terms.ensures
