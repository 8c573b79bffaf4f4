use Rattle.std.proofs.Common.{◌≡◌, arith}
use Rattle.json_tree.specs.declared.tree.Tree.TheVariants.{Object as TreeObject}
use Rattle.sith.proofs.Lists.{one_item}
use Rattle.sith.proofs.Values.{text_written, group_written}
use Rattle.sith.proofs.form.is_term.Goals as goal

pub returns-in-Str : goal.returns-in-Str
returns-in-Str c = text_written _ _ c.in-Str.is

pub returns-in-len1 : goal.returns-in-len1
returns-in-len1 c =
    let same : c.args.tree.now ≡ TreeObject c.as_slice.result.now = cc (c.in-Object.is, c.as_slice.ensures) in
    group_written _ _ c.member-item.result _ same (one_item _ _ (omega (arith, c.in-len1)) c.member-item.is) c.is_text_list.ensures
