use Rattle.std.proofs.Common.{refl}
use Rattle.keri_roles.proofs.KeriRolesLemmas.Statuses.{has_causes}
use Rattle.keri_roles.proofs.keri_roles.program.run.Goals as goal

pub returns-clause-answered : goal.returns-clause-answered
returns-clause-answered g c = rw g.met.O.Runs.run_is c.answer.ensures.answered

pub returns-clause-causes : goal.returns-clause-causes
returns-clause-causes g c = rw g.met.O.Runs.run_is (has_causes _ _ _ _ _ c.answer.ensures.answered refl refl)
