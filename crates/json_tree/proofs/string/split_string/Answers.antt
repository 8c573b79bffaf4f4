use Rattle.std.proofs.Common.{sym, subst, ◌∙◌}
use Rattle.std.specs.Str.{IsUtf8}
use Rattle.json_tree.proofs.StringParts.{string_is, none_at_quote}
use Rattle.json_tree.proofs.string.split_string.Goals as goal

pub returns-in_default-clause-none : goal.returns-in_default-clause-none
returns-in_default-clause-none c = λ text rest is e.
    let chars = c.after_chars-end.ensures in
    let same = string_is _ _ text _ chars.chars chars.stops is.chars (none_at_quote rest) e in
    c.in_default.ensures.none rest (sym same.1)

pub returns-in-Err-clause-none : goal.returns-in-Err-clause-none
returns-in-Err-clause-none c = λ text rest is e.
    let chars = c.after_chars-end.ensures in
    let same = string_is _ _ text _ chars.chars chars.stops is.chars (none_at_quote rest) e in
    let front = c.before-text.ensures chars.chars.front chars.chars.whole in
    c.in-Err.ensures.cases.0 (subst IsUtf8 (same.0 ∙ sym front) is.utf8)
