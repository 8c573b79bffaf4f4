use Rattle.std.proofs.Common.{◌≡◌, ◌∙◌, ap, refl, subst, sym, true}
use Rattle.std.specs.Option.{option_copied}
use Rattle.journal.specs.Journal.Logs.{takes}
use Rattle.journal.specs.Journal.Seals.{anchored}
use Rattle.validator_core.specs.Tables.View.{body_of, log_of}
use Rattle.validator_core.specs.Acceptance.Parts.{has_in}
use Rattle.validator_core.specs.Acceptance.Wants.{wants_by}
use Rattle.validator_core.proofs.AcceptanceLemmas.Wanted.{claims_wanting, rows_wanting}
use Rattle.validator_core.proofs.acceptance.wants.wanting.Goals as goal

pub returns-then-is_on_current : goal.returns-then-is_on_current
returns-then-is_on_current c = λ bytes at current taken.
    let v = c.args.tables.now in
    let s = option_copied c.args.current.state in
    let e = c.args.event.now in
    c.wanting_by.ensures
    ∙ ap (λ t. wants_by c.args.mode (has_in t.rows c.args.number) s e (anchored (log_of v) s e)) c.claims.ensures
    ∙ rows_wanting v c.requires.standing c.args.mode c.args.number (body_of bytes e) at c.requires.kept s c.is_state.ensures current taken (c.if-is_on_current.ensures bytes refl (subst (λ s. takes s e ≡ true) current taken))

pub returns : goal.returns
returns c = λ bytes at current taken.
    let v = c.args.tables.now in
    let s = option_copied c.args.current.state in
    let e = c.args.event.now in
    c.wanting_by-2.ensures
    ∙ claims_wanting v c.requires.standing c.args.mode c.args.number (body_of bytes e) at c.requires.kept s c.is_state.ensures current taken c.told.result.now c.told.ensures.rising
    (λ i reader m claims b by there named. c.told.ensures.all i reader m claims b by there (named ∙ sym c.name_of.ensures))
