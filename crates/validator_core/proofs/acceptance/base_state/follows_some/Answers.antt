use Rattle.std.proofs.Common.{◌∙◌}
use Rattle.validator_core.specs.Tables.View.{body_of, log_of}
use Rattle.validator_core.proofs.AcceptanceLemmas.Reasons.{has_predecessor}
use Rattle.validator_core.proofs.acceptance.base_state.follows_some.Goals as goal

pub returns : goal.returns
returns c = λ bytes. c.is_some.ensures ∙ has_predecessor (log_of c.args.tables.now) (body_of bytes c.args.event.now) c.predecessor.result (c.predecessor.ensures bytes)
