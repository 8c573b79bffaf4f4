use Rattle.std.proofs.Common.{◌≡◌, take}
use Rattle.std.specs.Prelude.{flat_map, string_bytes}
use Rattle.report_lines.specs.Conflicts.{named_line}
use Rattle.report_lines.proofs.conflicts.named_lines.Given as goal

-- the text has the lines of the conflicts so far
abbrev pub invariant-loop-conflict : goal.invariant-loop-conflict
invariant-loop-conflict l = string_bytes l.text ≡ flat_map (named_line l.fn.core.held) (take l.conflict-index l.conflicts)
