use Rattle.std.proofs.Common.{take}
use Rattle.blame_core.specs.BlameCore.Culprits.{HasKeys}
use Rattle.blame_core.proofs.blame_core.culprits.set_of.Given as goal

-- the keys so far are there
abbrev pub invariant-loop-key : goal.invariant-loop-key
invariant-loop-key l = HasKeys (take l.key-index l.keys) l.set
