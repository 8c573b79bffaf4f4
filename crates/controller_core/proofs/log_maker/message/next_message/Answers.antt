use Rattle.std.proofs.Common.{◌≡◌, ap, ◌∙◌}
use Rattle.controller_core.specs.LogMaker.Draws.{key_number}
use Rattle.controller_core.specs.LogMaker.Messages.{message_text, signed_text}
use Rattle.controller_core.specs.LogMaker.Names.{log_key}
use Rattle.controller_core.proofs.log_maker.message.next_message.Goals as goal

pub returns-clause-text : goal.returns-clause-text
unfolding message_text
returns-clause-text c =
    let next = c.args.log.now.next in
    let key : c.in_ok-key.key ≡ log_key next.seed next.log (key_number next.seed next.log next.sn) = c.in_ok-key.ensures ∙ ap (log_key next.seed next.log) c.key_number.ensures.number in
    c.in_ok-text.ensures ∙ (λ i. signed_text next.seed next.log (key i) (c.in_ok-body.ensures.text i))
