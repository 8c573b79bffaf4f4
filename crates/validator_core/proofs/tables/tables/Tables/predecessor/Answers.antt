use Rattle.std.proofs.Common.{◌∙◌, ap, sym}
use Rattle.std.specs.Prelude.{position}
use Rattle.journal.specs.Journal.Logs.{precedes}
use Rattle.validator_core.specs.Tables.View.{body_of, log_of}
use Rattle.validator_core.proofs.TablesLemmas.Found.{first_has_none, predecessor_found, unnamed_has_none}
use Rattle.validator_core.proofs.TablesLemmas.Pairs.{event_at}
use Rattle.validator_core.proofs.tables.tables.Tables.predecessor.Goals as goal

pub returns-in_err-name : goal.returns-in_err-name
returns-in_err-name c = λ bytes. rw c.from_residual.ensures (sym (unnamed_has_none bytes c.args.event.now (log_of c.args.self.now) (sym c.in_err-name.ensures)))

pub returns-then-sn-eq0 : goal.returns-then-sn-eq0
returns-then-sn-eq0 c = λ bytes. sym (first_has_none bytes c.args.event.now (log_of c.args.self.now) (sym c.sn.ensures ∙ c.if-sn-eq0.true))

pub returns : goal.returns
returns c = λ bytes.
    let t = c.self.inside in
    c.first_named.ensures
    ∙ predecessor_found c.self.invariant.2 t.events.items (event_at t.journal.bodies t.events.items c.self.invariant.0) bytes c.args.event.now c.in_ok-name.name (sym c.in_ok-name.ensures) (λ same. c.if-sn-eq0.false (c.sn.ensures ∙ same))
    c.as_slice.result.now c.numbers.result.now c.numbers-2.result.now c.as_slice.ensures.value c.numbers.ensures c.numbers-2.ensures.those c.numbers-2.ensures.rising
    ∙ ap (λ v. position (precedes (body_of bytes c.args.event.now)) (log_of v)) c.self.view_is
