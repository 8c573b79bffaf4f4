use Rattle.std.proofs.Common.{◌≡◌, ◌∙◌, ◌-◌, ◌++◌, ◌∷◌, [], ℕ, List, suc, sym, ap, arith, length, take, drop, length-append, subst}
use Rattle.cesr_stream.specs.Parts.{less}
use Rattle.cesr_stream.specs.Stops.{Stops}
use Rattle.cesr_stream.proofs.ReadElements.{element_more, element_stops}
use Rattle.cesr_stream.proofs.elements.read_elements.Goals as goal

pub loop-progress-preserved : goal.loop-progress-preserved
loop-progress-preserved g c =
    let bytes = c.args.bytes.now in
    let judged = g.E.Element.judged in
    let text = g.E.Element.text in
    let place = c.loop-progress.progress.place in
    let n = c.in-Ok.length in
    let one : c.loop-progress.progress.left ≡ suc (c.loop-progress.progress.left - 1) = omega (arith, c.loop-progress-test.true) in
    let pushed : c.push.new.self ≡ c.loop-progress.elements ++ c.in-Ok.element ∷ [] = c.in_ok-push-in-Ok.ensures.ok in
    let is = λ (more : List ℕ). ap (λ room. judged room (drop place bytes ++ more)) (sym c.less.ensures)
    ∙ ap (λ behind. judged c.less.result (behind ++ more)) (sym c.behind.ensures) ∙ c.in-Ok.ensures.stays more in
    record {
      read = element_more judged c.args.room bytes text c.loop-progress.elements c.push.new.self c.in-Ok.element c.loop-progress.progress.left (c.loop-progress.progress.left - 1) place n
          c.loop-progress.invariant.read one is (ap (take n) (sym c.behind.ensures) ∙ c.in-Ok.ensures.judged.1)
          (let fits = c.in-Ok.ensures.judged.2 in omega (arith, fits, ap length c.behind.ensures)) pushed;
      counted = omega (arith, one, ap length pushed, length-append c.loop-progress.elements (c.in-Ok.element ∷ []), c.loop-progress.invariant.counted);
    }

pub returns-in-Err-clause-err : goal.returns-in-Err-clause-err
returns-in-Err-clause-err g c =
    let bytes = c.args.bytes.now in
    let judged = g.E.Element.judged in
    let place = c.loop-progress.progress.place in
    let left = c.loop-progress.progress.left in
    let count = length c.loop-progress.elements in
    let one : left ≡ suc (left - 1) = omega (arith, c.loop-progress-test.true) in
    let stops = subst (λ behind. Stops behind (judged (less place c.args.room) behind) c.in-Err.stop) c.behind.ensures
    (subst (λ room. Stops c.behind.result.now (judged room c.behind.result.now) c.in-Err.stop) c.less.ensures c.in-Err.ensures.judged) in
    rw (c.behind-in-Err.ensures, ← c.loop-progress.invariant.counted)
    (element_stops judged c.args.room bytes count left (left - 1) place (take place bytes) c.in-Err.stop (rw (c.loop-progress.invariant.read.spelled) c.loop-progress.invariant.read) one stops)
