use Rattle.std.proofs.Common.{◌∙◌}
use Rattle.validator_core.specs.Tables.View.{body_of, log_of}
use Rattle.validator_core.proofs.AcceptanceLemmas.Footings.{stands_if}
use Rattle.validator_core.proofs.acceptance.base_state.stands.Goals as goal

pub returns : goal.returns
returns c = λ bytes. c.is_some.ensures
    ∙ stands_if (log_of c.args.tables.now) c.args.tables.now.log (body_of bytes c.args.event.now) c.footing_of.result (c.footing_of.ensures.none bytes) (c.footing_of.ensures.some bytes)
