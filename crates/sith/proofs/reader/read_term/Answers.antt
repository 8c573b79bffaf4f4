use Rattle.std.proofs.Common.{◌≡◌, arith}
use Rattle.json_tree.specs.declared.tree.Tree.TheVariants.{Object as TreeObject}
use Rattle.sith.proofs.Lists.{one_item}
use Rattle.sith.proofs.Values.{member_written}
use Rattle.sith.proofs.reader.read_term.Goals as goal

pub read_group-requires-clause-form : goal.read_group-requires-clause-form
read_group-requires-clause-form c =
    let same : c.args.tree.now ≡ TreeObject c.as_slice-in-Object.result.now = cc (c.in-Object.is, c.as_slice-in-Object.ensures) in
    member_written _ _ c.member-item.result same (one_item _ _ (omega (arith, c.in-len1)) c.member-item.is) c.requires.form
