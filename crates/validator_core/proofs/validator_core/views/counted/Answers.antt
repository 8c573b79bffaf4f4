use Rattle.std.proofs.Common.{◌≡◌, ◌<◌, ◌∷◌, ◌++◌, [], length, refl, sym, ◌∙◌, ap, subst, arith}
use Rattle.std.specs.Prelude.{slice_get}
use Rattle.std.proofs.lemmas.List.Elements.{All-push}
use Rattle.validator_core.specs.Acceptance.Standing.{told_of}
use Rattle.validator_core.specs.Tables.View.{log_of}
use Rattle.journal.specs.Journal.Conflicts.{counts}
use Rattle.journal.specs.Journal.Journals.{chosen}
use Rattle.journal.proofs.JournalLemmas.Places.{some_at}
use Rattle.validator_core.proofs.ValidatorCoreLemmas.Rivals.{fails_more, passes_more}
use Rattle.validator_core.proofs.validator_core.views.counted.Goals as goal
use Rattle.validator_core.proofs.validator_core.views.counted.Goals.{then-counts+in_ok-push, else-counts}

pub loop-place-init : goal.loop-place-init
unfolding chosen
loop-place-init c = rw c.new-numbers.ensures.items (record { those = refl; held = λ k d h. absurd (omega (arith, h)) })

pub loop-place-preserved : goal.loop-place-preserved
loop-place-preserved c =
    let v = c.args.tables.now in
    let q = counts (told_of v) (log_of v) in
    let place = c.loop-place.place in
    let n = c.in_ok-number.number in
    let numbers = c.loop-place.numbers.items in
    let is : n ≡ place = c.in_ok-number.ensures.ok in
    let low : place < length v.held = omega (arith, c.loop-place-test.true, c.len-place-end.ensures) in
    let b = some_at v.held place low in
    let answer : c.counts.result ≡ q b.0 = c.counts.ensures b.0 (ap (slice_get v.held) is ∙ b.1) in
    elim c.if-counts.branch [
      | then-counts+in_ok-push w ↦ (
          let items : c.if-counts.numbers.items ≡ numbers ++ n ∷ [] = ap (λ v. v.items) w.numbers-is ∙ w.in_ok-push.ensures.items in
          record {
            those = ap (chosen v.held) (items ∙ ap (λ k. numbers ++ k ∷ []) is) ∙ passes_more q v.held place b.0 b.1 numbers (sym answer ∙ w.if-counts.true) c.loop-place.invariant.those;
            held = rw items (All-push (λ n. n < length v.held) numbers n c.loop-place.invariant.held (subst (λ k. k < length v.held) (sym is) low));
          })
      | else-counts w ↦ (
          let items : c.if-counts.numbers.items ≡ numbers = ap (λ v. v.items) w.numbers-is in
          record {
            those = ap (chosen v.held) items ∙ fails_more q v.held place b.0 b.1 numbers (sym answer ∙ w.if-counts.false) c.loop-place.invariant.those;
            held = rw items c.loop-place.invariant.held;
          })
    ]
