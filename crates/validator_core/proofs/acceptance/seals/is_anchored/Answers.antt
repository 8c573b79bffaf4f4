use Rattle.std.proofs.Common.{not, ◌&&◌, ◌∙◌, ap, sym}
use Rattle.std.specs.Option.{option_copied}
use Rattle.journal.specs.Journal.Seals.{forbids}
use Rattle.validator_core.specs.Tables.View.{log_of}
use Rattle.validator_core.proofs.AcceptanceLemmas.Delegators.{needs_none, no_delegator, sealed_by}
use Rattle.validator_core.proofs.acceptance.seals.is_anchored.Goals as goal

pub returns-then-not-is_delegated : goal.returns-then-not-is_delegated
returns-then-not-is_delegated c = sym (needs_none (log_of c.args.tables.now) (option_copied c.args.state) c.args.event.now (sym c.if-not-is_delegated.ensures))

pub returns-then-is_sealed : goal.returns-then-is_sealed
returns-then-is_sealed c = ap not c.forbids.ensures
    ∙ ap (λ y. y && not (forbids (log_of c.args.tables.now) c.in-Some.delegator)) c.if-is_sealed.ensures
    ∙ sym (sealed_by (log_of c.args.tables.now) (option_copied c.args.state) c.args.event.now c.in-Some.delegator (sym c.if-not-is_delegated.ensures) (sym c.in-Some.ensures))

pub returns-else-is_sealed : goal.returns-else-is_sealed
returns-else-is_sealed c = c.if-is_sealed.false
    ∙ ap (λ y. y && not (forbids (log_of c.args.tables.now) c.in-Some.delegator)) c.if-is_sealed.ensures
    ∙ sym (sealed_by (log_of c.args.tables.now) (option_copied c.args.state) c.args.event.now c.in-Some.delegator (sym c.if-not-is_delegated.ensures) (sym c.in-Some.ensures))

pub returns-in-None : goal.returns-in-None
returns-in-None c = sym (no_delegator (log_of c.args.tables.now) (option_copied c.args.state) c.args.event.now (sym c.if-not-is_delegated.ensures) (sym c.in-None.ensures))
