use Rattle.std.proofs.Common.{◌≡◌, ℕ, List}
use Rattle.json_tree.specs.declared.tree.Tree.TheVariants.{Str, List as TreeList}
use Rattle.sith.proofs.Values.{list_written}
use Rattle.sith.proofs.form.is_text_list.Goals as goal

pub returns-in-List : goal.returns-in-List
returns-in-List c =
    let same : c.args.tree.now ≡ TreeList c.as_slice.result.now = cc (c.in-List.is, c.as_slice.ensures) in
    list_written (λ (text : List ℕ). Str text) _ _ _ same c.are_texts.ensures
