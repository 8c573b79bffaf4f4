use Rattle.std.proofs.Common.{◌∙◌}
use Rattle.edges.proofs.EdgesLemmas.Growth.{asks-again}
use Rattle.edges.proofs.door_over.accept.Goals as goal

pub returns-in-Ok-clause-asked : goal.returns-in-Ok-clause-asked
returns-in-Ok-clause-asked g c =
    asks-again (g.L.Listen.acts c.args.listener.now) (g.L.Listen.acts c.loop.listener) (g.L.Listen.acts c.accept.new.self)
    c.loop.invariant.0.0 c.loop.invariant.0.1 c.accept.ensures.asked

pub returns-in-Err-2-clause-asked : goal.returns-in-Err-2-clause-asked
returns-in-Err-2-clause-asked g c =
    asks-again (g.L.Listen.acts c.args.listener.now) (g.L.Listen.acts c.loop.listener) (g.L.Listen.acts c.accept.new.self)
    c.loop.invariant.0.0 c.loop.invariant.0.1 c.accept.ensures.asked

pub loop-preserved : goal.loop-preserved
loop-preserved g c = (
  asks-again (g.L.Listen.acts c.args.listener.now) (g.L.Listen.acts c.loop.listener) (g.L.Listen.acts c.accept.new.self)
      c.loop.invariant.0.0 c.loop.invariant.0.1 c.accept.ensures.asked,
  c.in-Err.ensures.comes ∙ c.loop.invariant.1,
)
