use Rattle.std.proofs.Common.{◌≡◌, Ok, ap, arith, ◌∙◌, ◌++◌, ◌∷◌}
use Rattle.std.specs.Fmt.{decimal}
use Rattle.controller_core.proofs.PlanTextLemmas.Parts.{whole}
use Rattle.controller_core.proofs.PlanTextLemmas.Numerals.{slot_parts, slot_has_space}
use Rattle.controller_core.proofs.plan_text.slot.read_slot.Goals as goal

pub returns-in_default-clause-only : goal.returns-in_default-clause-only
returns-in_default-clause-only c = λ slot is e. absurd (omega (arith, slot_has_space slot c.args.value.now is e, c.in_default.ensures.none))

pub returns-in-Ok-Ok-clause-some : goal.returns-in-Ok-Ok-clause-some
returns-in-Ok-Ok-clause-some c =
    let index = c.in-Ok-Ok.ensures.some in
    let ondex = c.in-Ok-Ok.ensures'.some in (
      (index.0, ondex.0),
      whole 32 c.args.value.now c.in-Some.index.now c.in-Some.ondex.now c.in-Some.ensures.some ∙ ap (λ l. l ++ 32 ∷ c.in-Some.ondex.now) index.1
          ∙ ap (λ l. decimal c.in-Ok-Ok.index ++ 32 ∷ l) ondex.1,
    )

pub returns-in-Ok-Ok-clause-only : goal.returns-in-Ok-Ok-clause-only
returns-in-Ok-Ok-clause-only c = λ slot is e.
    let parts = slot_parts slot c.args.value.now c.in-Some.index.now c.in-Some.ondex.now is e c.in-Some.ensures.some in
    let first = c.in-Ok-Ok.ensures.only slot.index is.0 parts.0 in
    let second = c.in-Ok-Ok.ensures'.only slot.ondex is.1 parts.1 in
    let index : c.in-Ok-Ok.index ≡ slot.index = cc first in
    let ondex : c.in-Ok-Ok.ondex ≡ slot.ondex = cc second in
    λ i. Ok (record { index = index i; ondex = ondex i })

pub returns-in_default-2-clause-only : goal.returns-in_default-2-clause-only
returns-in_default-2-clause-only c = λ slot is e.
    let parts = slot_parts slot c.args.value.now c.in-Some.index.now c.in-Some.ondex.now is e c.in-Some.ensures.some in
    let second = c.read_ondex.ensures.only slot.ondex is.1 parts.1 in
    absurd (cc (second, c.in_default-2.is-1))

pub returns-in_default-2-2-clause-only : goal.returns-in_default-2-2-clause-only
returns-in_default-2-2-clause-only c = λ slot is e.
    let parts = slot_parts slot c.args.value.now c.in-Some.index.now c.in-Some.ondex.now is e c.in-Some.ensures.some in
    let first = c.read_index.ensures.only slot.index is.0 parts.0 in
    absurd (cc (first, c.in_default-2.is-0))
