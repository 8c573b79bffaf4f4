use Rattle.std.proofs.Common.{◌≡◌, ◌++◌, string_bytes}
use Rattle.std.specs.Prelude.{All, flat_map}
use Rattle.validator_core.specs.ValidatorCore.View.{accepted_by}
use Rattle.report_lines.proofs.LogLines.{IsOwn, value_lines}
use Rattle.report_lines.proofs.log_lines.accepted_lines.Given as goal

-- the text has the lines of the logs before those that are left
abbrev pub invariant-loop-log : goal.invariant-loop-log
invariant-loop-log l = let log = accepted_by l.fn.core in record {
  lines : string_bytes l.text ++ flat_map (value_lines log) l.log-iterator ≡ flat_map (value_lines log) l.initial.log-iterator;
  own : All (IsOwn l.fn.core.held log) l.log-iterator;
}
