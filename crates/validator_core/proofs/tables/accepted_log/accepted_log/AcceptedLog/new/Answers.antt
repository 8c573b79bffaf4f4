use Rattle.validator_core.proofs.TablesLemmas.AcceptedLogLemmas.Behind.{nothing_is_log}
use Rattle.validator_core.proofs.tables.accepted_log.accepted_log.AcceptedLog.new.Goals as goal

pub returns-clause-log : goal.returns-clause-log
returns-clause-log c = rw (c.new.ensures.items, c.new-2.ensures.items, c.new-3.ensures.items) nothing_is_log
