use Rattle.std.proofs.Common.{◌≡◌, ◌∷◌, [], ◌++◌, List, length, length-append, refl, sym, ap, subst, ◌∙◌, append_assoc, append-nil, arith}
use Rattle.std.specs.Vec.Iter.{into_iter_items}
use Rattle.validator_core.specs.ValidatorCore.Base.{IsBase}
use Rattle.validator_core.proofs.ValidatorCoreLemmas.Bases.{base_length, base_more, refused_of}
use Rattle.validator_core.proofs.validator_core.base.add_texts.Goals as goal

nothing_left : {X : Type 0} (l : List X) → length l ≡ 0 → l ≡ []
nothing_left [] h = refl
nothing_left (x ∷ xs) h = absurd (omega arith)

pub add_text-requires-clause-accepted : goal.add_text-requires-clause-accepted
add_text-requires-clause-accepted c = c.loop-text.invariant.base.accepted

pub add_text-requires-clause-few : goal.add_text-requires-clause-few
add_text-requires-clause-few c =
    let at = c.loop-text in
    let all = ap length (ap (λ r. at.yielded ++ r) (sym c.in-Some.ensures.steps.0) ∙ at.invariant.all ∙ c.into_iter-text-iterator.ensures.into_iter_gives.0) in
    let parts = length-append at.yielded (c.in-Some.text ∷ into_iter_items c.next.new.self) in
    let held = base_length at.yielded at.tables at.invariant.base in
    omega (arith, all, parts, held, c.requires.few)

pub loop-text-preserved : goal.loop-text-preserved
loop-text-preserved c =
    let at = c.loop-text in
    let steps = c.in-Some.ensures.steps.0 in record {
      all = append_assoc at.yielded (c.in-Some.text ∷ []) _ ∙ rw (← steps) at.invariant.all;
      left = (let was = at.invariant.left in
          let gone = c.in-Some.ensures.steps.1 in
          let short = ap length steps in
          omega arith);
      base = base_more at.yielded c.in-Some.text at.tables c.add_text.new.tables at.invariant.base c.in_default.ensures.ok;
    }

pub returns-in-Err-clause-err : goal.returns-in-Err-clause-err
returns-in-Err-clause-err c =
    let at = c.loop-text in
    let parted = ap (λ r. at.yielded ++ r) (sym c.in-Some.ensures.steps.0) ∙ at.invariant.all ∙ c.into_iter-text-iterator.ensures.into_iter_gives.0 in
    refused_of at.yielded c.in-Some.text _ _ at.tables _ at.invariant.base parted c.in-Err.ensures.err

pub returns-clause-ok : goal.returns-clause-ok
returns-clause-ok c =
    let at = c.loop-text in
    let none = c.in-None.ensures.steps in
    let empty : into_iter_items at.text-iterator ≡ [] = nothing_left _ (sym at.invariant.left ∙ none.0) in
    let all = sym (append-nil at.yielded) ∙ rw empty at at.invariant.all ∙ c.into_iter-text-iterator.ensures.into_iter_gives.0 in
    subst (λ l. IsBase l at.tables) all at.invariant.base
