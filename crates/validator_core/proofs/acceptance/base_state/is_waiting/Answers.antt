use Rattle.std.proofs.Common.{not, ◌&&◌, ◌==◌, ◌∙◌, ap}
use Rattle.std.specs.List.{list_any}
use Rattle.validator_core.specs.Tables.View.{body_of}
use Rattle.validator_core.proofs.AcceptanceLemmas.Bodies.{waits_is}
use Rattle.validator_core.proofs.acceptance.base_state.is_waiting.Goals as goal

pub returns-then-not-is_receipt : goal.returns-then-not-is_receipt
returns-then-not-is_receipt c = λ bytes at.
    let v = c.args.tables.now in
    ap not c.is_accepted.ensures
    ∙ ap (λ r. not r && not (list_any (λ m. m == c.args.number) v.log.numbers)) c.if-not-is_receipt.ensures
    ∙ waits_is v c.requires c.args.number (body_of bytes c.args.event.now) at
