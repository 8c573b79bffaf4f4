use Rattle.std.proofs.Common.{◌≡◌, ◌+◌, length, flat_map}
use Rattle.cesr_stream.specs.Begun.{AreRead}
use Rattle.cesr_stream.proofs.elements.read_elements.Given as goal

-- the elements so far were read, and those left are the others
abbrev pub invariant-loop-progress : goal.invariant-loop-progress
invariant-loop-progress g l = record {
  read : AreRead g.E.Element.judged l.room l.bytes (length l.elements) (flat_map g.E.Element.text l.elements) l.progress;
  counted : length l.elements + l.progress.left ≡ length l.fn.elements + l.fn.progress.left;
}

abbrev pub decreases-loop-progress : goal.decreases-loop-progress
decreases-loop-progress g l = l.progress.left
