use Rattle.std.proofs.Common.{sym, ap, ◌∙◌, length}
use Rattle.std.specs.Prelude.{◌==◌}
use Rattle.std.proofs.lemmas.Bool.{eqb-true}
use Rattle.std.proofs.lemmas.List.{nil_from_length}
use Rattle.json_tree.specs.Numbers.{IsNumber}
use Rattle.json_tree.proofs.Takes.{all_of, none_left, not_all}
use Rattle.json_tree.proofs.number.is_number.Goals as goal

pub returns-in-Some : goal.returns-in-Some
returns-in-Some c =
    let taken = c.in-Some.ensures.some in (
      λ yes. all_of IsNumber _ _ taken (nil_from_length _ (eqb-true _ 0 (sym c.is_empty.ensures ∙ yes))),
      λ is. c.is_empty.ensures ∙ ap (λ l. length l == 0) (none_left IsNumber _ _ taken is),
    )

pub returns-in-None : goal.returns-in-None
returns-in-None c = (λ no. cc no, λ is. absurd (not_all IsNumber _ c.in-None.ensures.none is))
