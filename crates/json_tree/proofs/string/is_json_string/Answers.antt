use Rattle.std.proofs.Common.{ap, length}
use Rattle.std.specs.Prelude.{◌==◌}
use Rattle.json_tree.proofs.StringParts.{all_chars}
use Rattle.json_tree.proofs.string.is_json_string.Goals as goal

pub returns-then-not-is_empty : goal.returns-then-not-is_empty
returns-then-not-is_empty c =
    let left = c.if-not-is_empty.true in
    let tested = c.is_empty.ensures in (
      λ no. cc no,
      λ is.
          let empty = ap (λ l. length l == 0) (all_chars _ _ c.after_chars.ensures.chars c.after_chars.ensures.stops is.chars) in
          cc,
    )
