use Rattle.std.proofs.Common.{◌≡◌, take}
use Rattle.std.specs.Prelude.{flat_map, string_bytes}
use Rattle.blame_core.specs.BlameCore.Lines.{rivals_text}
use Rattle.blame_core.proofs.blame_core.lines.blame_lines.Given as goal

-- the text has the lines of the pairs so far
abbrev pub invariant-loop-blame : goal.invariant-loop-blame
invariant-loop-blame l = string_bytes l.text ≡ flat_map (rivals_text l.fn.first.held l.fn.second.held) (take l.blame-index l.blame-items)
