use Rattle.std.proofs.Common.{◌≡◌, ◌&&◌, ◌||◌, false, not, ◌∙◌, ap, subst, sym}
use Rattle.std.specs.Prelude.{IfSome}
use Rattle.std.specs.Option.{option_copied}
use Rattle.event_body.specs.EventBody.Events.{is_rotation}
use Rattle.journal.specs.EventRules.Parts.{has_next, has_signed}
use Rattle.journal.specs.Journal.Conflicts.{counts}
use Rattle.key_state.specs.States.{IsState}
use Rattle.validator_core.specs.Tables.View.{body_of, log_of}
use Rattle.validator_core.specs.Acceptance.Parts.{has_in}
use Rattle.validator_core.specs.Acceptance.Standing.{told_of}
use Rattle.validator_core.proofs.AcceptanceLemmas.Bodies.{at_body}
use Rattle.validator_core.proofs.AcceptanceLemmas.Counting.{counted, fallen_counts, receipt_counts}
use Rattle.validator_core.proofs.acceptance.conflict_part.counts.Goals as goal

pub returns-then-is_receipt : goal.returns-then-is_receipt
returns-then-is_receipt c =
    let v = c.args.tables.now in
    let e = c.in-Some.event.now in
    at_body v.held c.args.number e c.in-Some.ensures.event (λ b. false ≡ counts (told_of v) (log_of v) b)
    (λ bytes at. sym (receipt_counts v c.requires c.args.number (body_of bytes e) at c.in-Some.ensures.kept (sym c.if-is_receipt.ensures)))

pub returns-in_default-footing_of : goal.returns-in_default-footing_of
returns-in_default-footing_of c =
    let v = c.args.tables.now in
    let e = c.in-Some.event.now in
    at_body v.held c.args.number e c.in-Some.ensures.event (λ b. false ≡ counts (told_of v) (log_of v) b)
    (λ bytes at. sym (fallen_counts v c.requires c.args.number (body_of bytes e) at c.in-Some.ensures.kept (c.in_default-footing_of.ensures.none bytes)))

pub returns-then-meets_own : goal.returns-then-meets_own
returns-then-meets_own c =
    let v = c.args.tables.now in
    let e = c.in-Some.event.now in
    let s = option_copied c.footing_state-state.result in
    let there = c.footing_state-state.ensures in
    let on = c.in-Some-footing_of.footing in
    at_body v.held c.args.number e c.in-Some.ensures.event (λ b. c.meets_before.result ≡ counts (told_of v) (log_of v) b)
    (λ bytes at. c.meets_before.ensures
    ∙ ap (λ y. y && (not (is_rotation e) || has_next (has_in c.claims.result.now.rows c.args.number) s)) c.if-meets_own.ensures
    ∙ ap (λ t. has_signed (has_in t.rows c.args.number) s e) c.claims.ensures
    ∙ ap (λ o. has_signed (has_in v.claims.rows c.args.number) o e) there
    ∙ sym (counted v c.requires c.args.number (body_of bytes e) at c.in-Some.ensures.kept on (c.in-Some-footing_of.ensures.some bytes) (subst (λ o. IfSome o IsState) there c.is_state.ensures) (sym c.if-is_receipt.ensures)))

pub returns-else-meets_own : goal.returns-else-meets_own
returns-else-meets_own c =
    let v = c.args.tables.now in
    let e = c.in-Some.event.now in
    let s = option_copied c.footing_state-state.result in
    let there = c.footing_state-state.ensures in
    let on = c.in-Some-footing_of.footing in
    at_body v.held c.args.number e c.in-Some.ensures.event (λ b. c.meets_own.result ≡ counts (told_of v) (log_of v) b)
    (λ bytes at. c.if-meets_own.false
    ∙ ap (λ y. y && (not (is_rotation e) || has_next (has_in c.claims.result.now.rows c.args.number) s)) c.if-meets_own.ensures
    ∙ ap (λ t. has_signed (has_in t.rows c.args.number) s e) c.claims.ensures
    ∙ ap (λ o. has_signed (has_in v.claims.rows c.args.number) o e) there
    ∙ sym (counted v c.requires c.args.number (body_of bytes e) at c.in-Some.ensures.kept on (c.in-Some-footing_of.ensures.some bytes) (subst (λ o. IfSome o IsState) there c.is_state.ensures) (sym c.if-is_receipt.ensures)))
