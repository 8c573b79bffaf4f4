use Rattle.std.proofs.Common.{rules, sym}
use Rattle.cesr_codes.specs.Spelling.{digest_text}
use Rattle.report_lines.specs.Lines.{number}
use Rattle.report_lines.proofs.ConflictWords.{line_behind}
use Rattle.report_lines.proofs.lines.conflict_line.Goals as goal

pub returns : goal.returns
returns c = rw (line_behind digest_text (number c.args.sn) c.args.saids.now, sym c.in_ok-words.ensures) (search rules)
