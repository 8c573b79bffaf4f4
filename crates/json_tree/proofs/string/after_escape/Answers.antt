use Rattle.std.proofs.lemmas.Option.{IfSome_then}
use Rattle.json_tree.proofs.StringParts.{IfNone_then, escape_numbered, escape_short, none_escape}
use Rattle.json_tree.proofs.string.after_escape.Goals as goal

pub returns-in-Some-clause-some : goal.returns-in-Some-clause-some
returns-in-Some-clause-some c = IfSome_then _ c.after_four_hex.ensures.some (λ rest t. escape_numbered _ _ _ c.in-Some.ensures.some t)

pub returns-in-None-clause-some : goal.returns-in-None-clause-some
returns-in-None-clause-some c = IfSome_then _ c.after_short_escape.ensures.some (λ rest t. escape_short _ _ t)

pub returns-in-None-clause-none : goal.returns-in-None-clause-none
returns-in-None-clause-none c = IfNone_then _ c.after_short_escape.ensures.none (λ none. none_escape _ c.in-None.ensures.none none)
