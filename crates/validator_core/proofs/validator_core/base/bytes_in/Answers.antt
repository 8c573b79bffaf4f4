use Rattle.std.proofs.Common.{◌≡◌, ℕ, List, length, arith, sym, ◌∙◌, ap, get_or}
use Rattle.std.specs.Prelude.{sum_by}
use Rattle.std.proofs.lemmas.List.Sums.{sum_by_more_le}
use Rattle.validator_core.specs.ValidatorCore.View.{bytes_of}
use Rattle.validator_core.proofs.ValidatorCoreLemmas.Bases.{bytes_are, few_bytes}
use Rattle.validator_core.proofs.validator_core.base.bytes_in.Goals as goal

pub overflow_add-bytes : goal.overflow_add-bytes
overflow_add-bytes c =
    let held = c.args.tables.now.held in
    let texts = c.as_slice-text-items.result.now in
    let all : sum_by (λ (t : List ℕ). length t) texts ≡ bytes_of held = ap (sum_by (λ (t : List ℕ). length t)) (c.as_slice-text-items.ensures ∙ c.journal.ensures.bodies) ∙ bytes_are held in
    let more = sum_by_more_le (λ (t : List ℕ). length t) texts c.loop-text.text-index c.text-item.result c.loop-text-test.true in
    let here : length (get_or texts c.loop-text.text-index c.text-item.result) ≡ length c.text-item.result = ap length (sym c.text-item.is) in
    omega (arith, all, more, here, few_bytes held c.requires.few c.requires.short, c.loop-text.invariant, c.len.ensures)
