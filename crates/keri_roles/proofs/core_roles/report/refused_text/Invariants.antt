use Rattle.std.proofs.Common.{◌≡◌, take, string_bytes}
use Rattle.keri_roles.specs.CoreRoles.Reports.{refused_lines}
use Rattle.keri_roles.proofs.core_roles.report.refused_text.Given as goal

-- the lines of the messages so far
abbrev pub invariant-loop-refusal : goal.invariant-loop-refusal
invariant-loop-refusal l = string_bytes l.text ≡ refused_lines l.number (take l.refusal-index l.refused)
