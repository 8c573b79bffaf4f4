use Rattle.std.proofs.Common.{◌≡◌}
use Rattle.json_tree.specs.declared.tree.Tree.TheVariants.{List as TreeList}
use Rattle.sith.specs.Thresholds.{written_value}
use Rattle.sith.proofs.Values.{members_written}
use Rattle.sith.proofs.reader.read_clause.Goals as goal

pub read_terms-requires-clause-form : goal.read_terms-requires-clause-form
read_terms-requires-clause-form c =
    let same : c.args.tree.now ≡ TreeList c.as_slice.result.now = cc (c.in-List.is, c.as_slice.ensures) in
    members_written written_value _ _ same c.requires.form
