use Rattle.std.proofs.Common.{◌≡◌, ℕ, Option, Some, None, refl, sym, ◌∙◌, codes}
use Rattle.std.proofs.lemmas.Slice.Eq.{bytes_eq-Decides}
use Rattle.controller_core.specs.PlanText.Entries.{IsOndex, ondex_text}
use Rattle.controller_core.proofs.PlanTextLemmas.Numerals.{no_hyphen}
use Rattle.controller_core.proofs.plan_text.slot.read_ondex.Goals as goal

none_is : (ondex : Option ℕ) → IsOndex ondex → codes "-" ≡ ondex_text ondex → None ≡ ondex
none_is None is e = refl
none_is (Some n) is e = absurd (no_hyphen n is (sym e))

pub returns-then-eq-clause-only : goal.returns-then-eq-clause-only
returns-then-eq-clause-only c = λ ondex is e.
    let same = (bytes_eq-Decides c.args.text.now c.as_slice.result.now).0 (sym c.if-eq.ensures) in
    let none = none_is ondex is (sym (same ∙ c.as_slice.ensures) ∙ e) in cc none
