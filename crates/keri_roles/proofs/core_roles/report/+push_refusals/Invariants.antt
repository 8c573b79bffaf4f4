use Rattle.std.proofs.Common.{length}
use Rattle.keri_roles.proofs.core_roles.report.+push_refusals.Given as goal

abbrev pub decreases-push_refusals : goal.decreases-push_refusals
decreases-push_refusals g l = length l.readers.now
