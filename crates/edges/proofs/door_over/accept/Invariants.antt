use Rattle.std.proofs.Common.{◌≡◌, ℕ}
use Rattle.std.specs.Prelude.{replicate}
use Rattle.edges.specs.Acts.{Grows}
use Rattle.edges.specs.declared.link_act.LinkAct.TheVariants.{Asked}
use Rattle.edges.proofs.door_over.accept.Given as goal

-- it was asked alone, and no link was taken
abbrev pub invariant-loop : goal.invariant-loop
invariant-loop g l =
    ((n : ℕ) × Grows (g.L.Listen.acts l.fn.listener) (g.L.Listen.acts l.listener) (replicate n Asked))
    × (g.L.Listen.left l.listener ≡ g.L.Listen.left l.fn.listener)
