use Rattle.std.proofs.Common.{◌≡◌, ◌-◌, ◌<◌, length, take, sym, ap, ◌∙◌, arith}
use Rattle.std.proofs.lemmas.List.{take_all}
use Rattle.validator_core.specs.ValidatorCore.View.{accepted_by}
use Rattle.witness_core.specs.WitnessReceipts.Fates.{is_within, live_there, said_at}
use Rattle.witness_core.proofs.WitnessReceiptsLemmas.FateSteps.{back_step}
use Rattle.witness_core.proofs.WitnessReceiptsLemmas.Living.{live_before, live_last, live_nothing}
use Rattle.witness_core.proofs.WitnessReceiptsLemmas.Numbers.{length-chosen}
use Rattle.witness_core.proofs.witness_receipts.fate.earlier_at.Goals as goal

pub loop-place-init : goal.loop-place-init
loop-place-init c =
    let core = c.args.core.now in
    let log = accepted_by core in
    let long : length log ≡ length c.accepted-accepted.result.now = ap length (sym c.accepted-accepted.ensures.accepted) ∙ length-chosen core.held c.accepted-accepted.result.now c.accepted-accepted.ensures.held in
    ap (λ l. live_there l c.args.prefix.now c.args.sn) (take_all (length c.accepted-accepted.result.now) log (omega (arith, long)))

pub returns-then-is_within : goal.returns-then-is_within
returns-then-is_within c =
    let core = c.args.core.now in
    let prefix = c.args.prefix.now in
    let sn = c.args.sn in
    let accepted = c.accepted-accepted.result.now in
    let i = c.loop-place.place in
    let within : i - 1 < length accepted = omega (arith, c.loop-place.auto.place, c.loop-place-test.true) in
    let step = back_step core accepted c.events-events.result.now c.accepted-accepted.ensures.accepted c.accepted-accepted.ensures.held c.events-events.ensures i (omega (arith, c.loop-place-test.true)) within in
    let event = c.index-events-accepted.is ∙ step.2 c.index-events-accepted.result in
    c.said_at.ensures ∙ ap (said_at sn) event
    ∙ sym (live_last (take (i - 1) (accepted_by core)) prefix sn step.0 (ap (is_within prefix sn) (sym event) ∙ sym c.is_within.ensures ∙ c.if-is_within.true))
    ∙ ap (λ l. live_there l prefix sn) (sym step.1) ∙ c.loop-place.invariant

pub loop-place-preserved : goal.loop-place-preserved
loop-place-preserved c =
    let core = c.args.core.now in
    let prefix = c.args.prefix.now in
    let sn = c.args.sn in
    let accepted = c.accepted-accepted.result.now in
    let i = c.loop-place.place in
    let within : i - 1 < length accepted = omega (arith, c.loop-place.auto.place, c.loop-place-test.true) in
    let step = back_step core accepted c.events-events.result.now c.accepted-accepted.ensures.accepted c.accepted-accepted.ensures.held c.events-events.ensures i (omega (arith, c.loop-place-test.true)) within in
    let event = c.index-events-accepted.is ∙ step.2 c.index-events-accepted.result in
    sym (live_before (take (i - 1) (accepted_by core)) prefix sn step.0 (ap (is_within prefix sn) (sym event) ∙ sym c.is_within.ensures ∙ c.if-is_within.false))
    ∙ ap (λ l. live_there l prefix sn) (sym step.1) ∙ c.loop-place.invariant

pub returns : goal.returns
returns c =
    let log = accepted_by c.args.core.now in
    let none : 0 ≡ c.loop-place.place = omega (arith, c.loop-place-test.false) in
    sym (live_nothing c.args.prefix.now c.args.sn) ∙ ap (λ k. live_there (take k log) c.args.prefix.now c.args.sn) none ∙ c.loop-place.invariant
