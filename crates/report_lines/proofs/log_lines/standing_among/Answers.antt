use Rattle.std.proofs.Common.{Err, refl}
use Rattle.report_lines.proofs.LiveNumbers.{sought}
use Rattle.report_lines.proofs.log_lines.standing_among.Goals as goal

pub returns-in-Err : goal.returns-in-Err
returns-in-Err c = let none = sought c.args.live.now c.args.number (Err c.in-Err.field-0) c.in-Err.ensures.position c.requires in rw none refl
