use Rattle.std.proofs.Common.{ℕ, ◌-◌, ◌≤◌, ◌∙◌, sym, ap, arith, length, drop, take, length-drop, length-take}
use Rattle.lists.specs.KeriSpecs.Shown.{after}
use Rattle.edges.proofs.EdgesLemmas.Steady.{keeps_same, adds_more}
use Rattle.edges.proofs.sink_over.write_all.Goals as goal
use Rattle.edges.proofs.sink_over.write_all.Goals.{in-Ok, in-Err}

-- a write added what it took, or nothing
pub loop-preserved : goal.loop-preserved
loop-preserved g c =
    let bytes = c.args.bytes.now in
    let first = g.W.Write.contents c.args.writer.now in
    let old = g.W.Write.contents c.loop.writer in
    let new = g.W.Write.contents c.write.new.self in
    let same = g.met.W.SteadyWrite.steady c.write.new.self ∙ sym (g.met.W.SteadyWrite.steady c.loop.writer) in
    elim c.match-write.branch [
      | in-Ok w ↦
          let most : w.in-Ok.count ≤ length bytes - c.loop.done = (let bound = w.in-Ok.ensures.bound in let size = length-take (length bytes - c.loop.done) (drop c.loop.done bytes) in let rest = length-drop c.loop.done bytes in omega (arith, bound, size, rest)) in (
            omega (arith, w.done-is, most, c.loop.invariant.0),
            adds_more first old new bytes c.loop.done w.in-Ok.count same c.loop.invariant.1 w.in-Ok.ensures.bytes
                ∙ ap (λ (n : ℕ). after first (take n bytes)) (sym w.done-is),
          )
      | in-Err w ↦ (
        omega (arith, w.done-is, c.loop.invariant.0),
        keeps_same old new same w.in-Err.ensures.bytes ∙ c.loop.invariant.1
            ∙ ap (λ (n : ℕ). after first (take n bytes)) (sym w.done-is),
      )
    ]
