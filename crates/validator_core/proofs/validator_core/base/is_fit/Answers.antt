use Rattle.std.proofs.Common.{ap, sym, ◌∙◌}
use Rattle.std.specs.Option.{option_copied}
use Rattle.validator_core.specs.Tables.View.{body_of}
use Rattle.event_body.specs.EventBody.Events.{prefix_of}
use Rattle.journal.specs.Journal.Logs.{takes}
use Rattle.validator_core.proofs.ValidatorCoreLemmas.Bases.{fits_new, held_unfit, receipt_unfit, state_held}
use Rattle.validator_core.proofs.validator_core.base.is_fit.Goals as goal

pub number_of-requires-clause-all_spelled : goal.number_of-requires-clause-all_spelled
number_of-requires-clause-all_spelled c = λ n b at. (c.requires.accepted.sound.spelled n b at).spelled

pub returns-then-is_receipt : goal.returns-then-is_receipt
returns-then-is_receipt c = sym (receipt_unfit c.args.tables.now.held (body_of c.args.text.now c.args.event.now) (sym c.is_receipt.ensures ∙ c.if-is_receipt.true))

pub returns-in-Some : goal.returns-in-Some
returns-in-Some c =
    sym (held_unfit c.args.tables.now.held c.in-Some.field-0 (body_of c.args.text.now c.args.event.now) (sym c.is_receipt.ensures ∙ c.if-is_receipt.false) c.in-Some.ensures.some)

pub returns-in-None : goal.returns-in-None
returns-in-None c =
    let v = c.args.tables.now in
    let event = c.args.event.now in
    let current = state_held v c.requires.accepted (prefix_of event) (option_copied c.current.result) (rw (c.log.ensures, c.prefix.ensures) at c.current.ensures) in
    c.takes.ensures ∙ ap (λ s. takes s event) current
    ∙ sym (fits_new v.held (body_of c.args.text.now event) (sym c.is_receipt.ensures ∙ c.if-is_receipt.false) c.in-None.ensures.none)
