use Rattle.std.proofs.Common.{◌≡◌, None, Some, ◌∙◌, sym}
use Rattle.std.specs.Option.{option_copied}
use Rattle.journal.specs.declared.journal.why.Why.TheVariants.{Never, Predecessor}
use Rattle.journal.specs.Journal.Waiting.{why_waits}
use Rattle.validator_core.specs.Tables.View.{body_of, log_of}
use Rattle.validator_core.specs.Acceptance.Standing.{told_of}
use Rattle.validator_core.proofs.AcceptanceLemmas.Bodies.{at_body, is_below}
use Rattle.validator_core.proofs.AcceptanceLemmas.Reasons.{behind_waits, event_waits, lost_waits, nothing_waits, there_taken, there_wants}
use Rattle.validator_core.proofs.acceptance.wait_reason.why_waits.Goals as goal

pub returns-then-not-is_waiting-clause-held : goal.returns-then-not-is_waiting-clause-held
returns-then-not-is_waiting-clause-held c =
    let v = c.args.tables.now in
    let e = c.in_ok-event.event.now in
    at_body v.held c.args.number e c.in_ok-event.ensures.event (λ b. None ≡ why_waits c.args.mode (told_of v) (log_of v) b)
    (λ bytes at. sym (nothing_waits c.args.mode (told_of v) (log_of v) (body_of bytes e) (sym (c.if-not-is_waiting.ensures bytes at))))

pub returns-then-is_lost-clause-held : goal.returns-then-is_lost-clause-held
returns-then-is_lost-clause-held c =
    let v = c.args.tables.now in
    let e = c.in_ok-event.event.now in
    at_body v.held c.args.number e c.in_ok-event.ensures.event (λ b. Some Never ≡ why_waits c.args.mode (told_of v) (log_of v) b)
    (λ bytes at. sym (event_waits c.args.mode (told_of v) (log_of v) (body_of bytes e) (option_copied c.current_of-current.result.state) c.current_of-current.ensures.state (sym (c.if-not-is_waiting.ensures bytes at))
    ∙ lost_waits c.args.mode (told_of v) (log_of v) (body_of bytes e) (option_copied c.current_of-current.result.state) (sym (c.if-is_lost.ensures bytes))))

pub returns-then-not-is_behind_some-clause-held : goal.returns-then-not-is_behind_some-clause-held
returns-then-not-is_behind_some-clause-held c =
    let v = c.args.tables.now in
    let e = c.in_ok-event.event.now in
    at_body v.held c.args.number e c.in_ok-event.ensures.event (λ b. Some Predecessor ≡ why_waits c.args.mode (told_of v) (log_of v) b)
    (λ bytes at. sym (event_waits c.args.mode (told_of v) (log_of v) (body_of bytes e) (option_copied c.current_of-current.result.state) c.current_of-current.ensures.state (sym (c.if-not-is_waiting.ensures bytes at))
    ∙ behind_waits c.args.mode (told_of v) (log_of v) (body_of bytes e) (option_copied c.current_of-current.result.state) (sym (c.if-is_lost.ensures bytes)) (sym (c.if-not-is_behind_some.ensures bytes))))

pub wanting-requires-clause-held : goal.wanting-requires-clause-held
wanting-requires-clause-held c = is_below c.args.tables.now.held c.args.number c.in_ok-event.event.now c.in_ok-event.ensures.event

pub returns-clause-held : goal.returns-clause-held
returns-clause-held c =
    let v = c.args.tables.now in
    let e = c.in_ok-event.event.now in
    let s = option_copied c.current_of-current.result.state in
    at_body v.held c.args.number e c.in_ok-event.ensures.event (λ b. c.wanting.result ≡ why_waits c.args.mode (told_of v) (log_of v) b)
    (λ bytes at.
    let b = body_of bytes e in
    let lost = sym (c.if-is_lost.ensures bytes) in
    let there = sym (c.if-not-is_behind_some.ensures bytes) in
    c.wanting.ensures bytes at c.current_of-current.ensures.state (there_taken c.args.mode (told_of v) (log_of v) b s lost there)
    ∙ sym (event_waits c.args.mode (told_of v) (log_of v) b s c.current_of-current.ensures.state (sym (c.if-not-is_waiting.ensures bytes at))
    ∙ there_wants c.args.mode (told_of v) (log_of v) b s lost there))
