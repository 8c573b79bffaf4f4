use Rattle.std.proofs.Common.{◌≡◌, take}
use Rattle.std.specs.Prelude.{flat_map, string_bytes}
use Rattle.report_lines.proofs.rows.ordered_lines.Given as goal

-- the text has the lines of the rows so far
abbrev pub invariant-loop-row : goal.invariant-loop-row
invariant-loop-row l = string_bytes l.text ≡ flat_map (λ r. string_bytes r.lines) (take l.row-index l.row-items)
