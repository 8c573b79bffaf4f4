use Rattle.std.proofs.Common.{◌≡◌, take, length, flat_map}
use Rattle.cesr_stream.proofs.writable.size_of_all.Given as goal

-- the size so far is that of the texts so far
abbrev pub invariant-loop-one : goal.invariant-loop-one
invariant-loop-one g l = record { sized : l.size ≡ length (flat_map g.E.Writable.text (take l.one-index l.all)) }
