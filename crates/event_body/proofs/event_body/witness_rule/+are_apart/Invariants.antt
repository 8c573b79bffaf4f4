use Rattle.std.proofs.Common.{length}
use Rattle.event_body.proofs.event_body.witness_rule.+are_apart.Given as goal

abbrev pub decreases-are_apart : goal.decreases-are_apart
decreases-are_apart l = length l.keys.now
