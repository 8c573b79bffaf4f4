use Rattle.std.proofs.Common.{◌≡◌, ◌+◌, ◌<◌, ◌∷◌, ◌++◌, [], length, drop, get_or, refl, sym, ap, subst, ◌∙◌, arith, append-nil}
use Rattle.std.specs.Prelude.{Some, slice_get}
use Rattle.std.proofs.lemmas.List.Elements.{All-push}
use Rattle.std.proofs.lemmas.Option.{slice_get-get_or}
use Rattle.journal.specs.Journal.Journals.{chosen}
use Rattle.journal.proofs.JournalLemmas.Held.{chosen_push}
use Rattle.journal.proofs.JournalLemmas.Places.{some_at}
use Rattle.validator_core.specs.ValidatorCore.Signatures.{is_witness_under}
use Rattle.validator_core.specs.ValidatorCore.View.{accepted_by}
use Rattle.witness_core.specs.WitnessReceipts.Receipts.{listed}
use Rattle.witness_core.proofs.WitnessReceiptsLemmas.Numbers.{chosen_there, drop_none, keeps_one, length-chosen, skips_one}
use Rattle.witness_core.proofs.witness_receipts.receipts.listed_since.Goals as goal
use Rattle.witness_core.proofs.witness_receipts.receipts.listed_since.Goals.{then-is_witness_at+in_ok-push, else-is_witness_at}

pub loop-place-init : goal.loop-place-init
unfolding chosen
loop-place-init c = rw c.new-numbers.ensures.items (record { those = refl; held = λ k d h. absurd (omega (arith, h)) })

pub loop-place-preserved : goal.loop-place-preserved
loop-place-preserved c =
    let core = c.args.core.now in
    let held = core.held in
    let log = accepted_by core in
    let key = c.args.key.now in
    let accepted = c.accepted-accepted.result.now in
    let place = c.loop-place.place in
    let numbers = c.loop-place.numbers.items in
    let all = listed key log (drop c.args.front log) in
    let low : place < length accepted = omega (arith, c.loop-place-test.true) in
    let n = get_or accepted place 0 in
    let below : n < length held = c.accepted-accepted.ensures.held place 0 low in
    let b = some_at held n below in
    let there : slice_get log place ≡ Some b.0 =
    subst (λ log. slice_get log place ≡ Some b.0) c.accepted-accepted.ensures.accepted
    (chosen_there held accepted place n b.0 c.accepted-accepted.ensures.held (slice_get-get_or accepted place 0 low) b.1) in
    let answer : c.is_witness_at.result ≡ is_witness_under log b.0 key = c.is_witness_at.ensures b.0 there in
    elim c.if-is_witness_at.branch [
      | then-is_witness_at+in_ok-push w ↦ (
          let items : c.if-is_witness_at.numbers.items ≡ numbers ++ n ∷ [] = ap (λ v. v.items) w.numbers-is ∙ w.in_ok-push.ensures.items in
          record {
            those = ap (λ bodies. bodies ++ listed key log (drop (place + 1) log)) (ap (chosen held) items ∙ chosen_push held numbers n b.0 b.1)
                ∙ keeps_one (λ b. is_witness_under log b key) log all (chosen held numbers) place b.0 there c.loop-place.invariant.those (sym answer ∙ w.if-is_witness_at.true);
            held = rw items (All-push (λ n. n < length held) numbers n c.loop-place.invariant.held below);
          })
      | else-is_witness_at w ↦ (
          let items : c.if-is_witness_at.numbers.items ≡ numbers = ap (λ v. v.items) w.numbers-is in
          record {
            those = ap (λ ns. chosen held ns ++ listed key log (drop (place + 1) log)) items
                ∙ skips_one (λ b. is_witness_under log b key) log all (chosen held numbers) place b.0 there c.loop-place.invariant.those (sym answer ∙ w.if-is_witness_at.false);
            held = rw items c.loop-place.invariant.held;
          })
    ]

pub returns-clause-those : goal.returns-clause-those
returns-clause-those c =
    let core = c.args.core.now in
    let log = accepted_by core in
    let key = c.args.key.now in
    let place = c.loop-place.place in
    let so_far = chosen core.held c.loop-place.numbers.items in
    let long : length log ≡ length c.accepted-accepted.result.now =
    ap length (sym c.accepted-accepted.ensures.accepted) ∙ length-chosen core.held c.accepted-accepted.result.now c.accepted-accepted.ensures.held in
    let none : drop place log ≡ [] = drop_none log place (omega (arith, long, c.loop-place-test.false)) in
    sym (append-nil so_far) ∙ ap (λ rest. so_far ++ listed key log rest) (sym none) ∙ c.loop-place.invariant.those
