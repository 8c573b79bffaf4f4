use Rattle.std.proofs.Common.{length}
use Rattle.event_body.proofs.event_body.value_rules.+all_few.Given as goal

abbrev pub decreases-all_few : goal.decreases-all_few
decreases-all_few l = length l.fields.now
