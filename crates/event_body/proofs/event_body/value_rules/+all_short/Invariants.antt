use Rattle.std.proofs.Common.{length}
use Rattle.event_body.proofs.event_body.value_rules.+all_short.Given as goal

abbrev pub decreases-all_short : goal.decreases-all_short
decreases-all_short l = length l.fields.now
