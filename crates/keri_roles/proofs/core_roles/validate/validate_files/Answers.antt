use Rattle.keri_roles.proofs.CoreRolesLemmas.Agreed.{is_agreed}
use Rattle.keri_roles.proofs.CoreRolesLemmas.Confluence.{is_confluent}
use Rattle.keri_roles.proofs.CoreRolesLemmas.OverCore.{ok_then}
use Rattle.keri_roles.proofs.core_roles.validate.validate_files.Goals as goal

pub returns-clause-validated : goal.returns-clause-validated
returns-clause-validated g c = ok_then c.over_core.result c.over_core.ensures.done (λ outcome over. record {
  over = over;
  agreed = is_agreed over.told.journal.fed.held outcome.journal.entries over.told.journal.fed.reading.spelled over.told.journal.fed.in_order;
  confluent = is_confluent over.told.journal.fed.held outcome.journal.entries over.told.journal.fed.reading.spelled over.told.journal.fed.in_order;
})
