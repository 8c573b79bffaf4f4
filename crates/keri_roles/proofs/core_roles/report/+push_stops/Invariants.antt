use Rattle.std.proofs.Common.{length}
use Rattle.keri_roles.proofs.core_roles.report.+push_stops.Given as goal

abbrev pub decreases-push_stops : goal.decreases-push_stops
decreases-push_stops g l = length l.readers.now
