use Rattle.std.proofs.lemmas.Option.{IfSome_then}
use Rattle.json_tree.proofs.StringParts.{IfNone_then, char_escaped, char_unescaped, none_escaped, none_char}
use Rattle.json_tree.proofs.string.after_char.Goals as goal

pub returns-in-Some-clause-some : goal.returns-in-Some-clause-some
returns-in-Some-clause-some c = IfSome_then _ c.after_escape.ensures.some (λ rest t. char_escaped _ _ _ c.in-Some.ensures.some t)

pub returns-in-Some-clause-none : goal.returns-in-Some-clause-none
returns-in-Some-clause-none c = IfNone_then _ c.after_escape.ensures.none (λ none. none_escaped _ _ c.in-Some.ensures.some none)

pub returns-in-None-clause-some : goal.returns-in-None-clause-some
returns-in-None-clause-some c = IfSome_then _ c.after_unescaped.ensures.some (λ rest t. char_unescaped _ _ t)

pub returns-in-None-clause-none : goal.returns-in-None-clause-none
returns-in-None-clause-none c = IfNone_then _ c.after_unescaped.ensures.none (λ none. none_char _ c.in-None.ensures.none none)
