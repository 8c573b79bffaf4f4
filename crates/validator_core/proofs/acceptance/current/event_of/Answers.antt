use Rattle.std.specs.Option.{option_copied}
use Rattle.validator_core.proofs.AcceptanceLemmas.Bodies.{kept_if}
use Rattle.validator_core.proofs.acceptance.current.event_of.Goals as goal

pub returns-clause-kept : goal.returns-clause-kept
returns-clause-kept c = kept_if c.args.tables.now c.requires c.spelled_is_kept.ensures c.args.number (option_copied c.event.result) c.event.ensures
