use Rattle.std.proofs.Common.{take}
use Rattle.sith.specs.Weights.{HasNoSlash}
use Rattle.sith.proofs.weight.slash_place.Given as goal

-- no byte so far is a slash
abbrev pub invariant-loop-place : goal.invariant-loop-place
invariant-loop-place l = HasNoSlash (take l.place l.text)
