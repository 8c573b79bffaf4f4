use Rattle.journal.specs.declared.journal.mode.Mode.TheVariants.{Local}
use Rattle.journal_views.proofs.JournalLawsLemmas.Same.{confluence}
use Rattle.keri_roles.proofs.CoreRolesLemmas.OverCore.{ok_then}
use Rattle.keri_roles.proofs.core_roles.watch.watch_files.Goals as goal

pub returns-clause-watched : goal.returns-clause-watched
returns-clause-watched g c = ok_then c.over_core.result c.over_core.ensures.done (λ outcome over. record { over = over; confluent = confluence Local _ })
