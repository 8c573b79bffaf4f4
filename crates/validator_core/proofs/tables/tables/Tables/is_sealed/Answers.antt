use Rattle.std.proofs.Common.{◌∙◌, ap, subst}
use Rattle.event_backing.specs.EventSeals.{IsEventSeal}
use Rattle.validator_core.specs.declared.tables.name.Name.{Name}
use Rattle.journal.specs.Journal.Seals.{is_sealed}
use Rattle.validator_core.specs.Tables.View.{log_of}
use Rattle.validator_core.proofs.TablesLemmas.Found.{sealed_found}
use Rattle.validator_core.proofs.TablesLemmas.Pairs.{event_at}
use Rattle.validator_core.proofs.tables.tables.Tables.is_sealed.Goals as goal

pub returns : goal.returns
returns c =
    let t = c.self.inside in
    let is = subst (λ (m : Name). IsEventSeal (record { prefix = m.prefix; sn = m.sn; said = m.said })) c.name_of-name.ensures c.in_range.ensures in
    c.has_seal.ensures
    ∙ sealed_found c.self.invariant.2 t.events.items (event_at t.journal.bodies t.events.items c.self.invariant.0) c.args.delegator.now c.args.event.now is c.as_slice.result.now c.numbers.result.now c.numbers-2.result.now c.name_of-name.result
    c.as_slice.ensures.value c.numbers.ensures c.name_of-name.ensures c.numbers-2.ensures.those c.numbers-2.ensures.rising
    ∙ ap (λ v. is_sealed (log_of v) c.args.delegator.now c.args.event.now) c.self.view_is
