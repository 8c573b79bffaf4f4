use Rattle.std.proofs.Common.{◌≡◌, take}
use Rattle.std.specs.Prelude.{flat_map, string_bytes}
use Rattle.blame_core.specs.BlameCore.Lines.{culprit_text}
use Rattle.blame_core.proofs.blame_core.lines.culprit_lines.Given as goal

-- the text has the lines of the culprits so far
abbrev pub invariant-loop-culprit : goal.invariant-loop-culprit
invariant-loop-culprit l = string_bytes l.text ≡ flat_map culprit_text (take l.culprit-index l.culprits)
