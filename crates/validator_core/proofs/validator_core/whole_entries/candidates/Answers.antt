use Rattle.std.proofs.Common.{sym, ◌∙◌, ap}
use Rattle.std.specs.Prelude.{option_map}
use Rattle.validator_core.proofs.TablesLemmas.Rows.{not_some}
use Rattle.event_body.specs.EventBody.Events.{said_of}
use Rattle.validator_core.proofs.TableChangesLemmas.Events.{body_there, if_ok_both, if_ok_then}
use Rattle.validator_core.proofs.ValidatorCoreLemmas.Candidates.{have_no_others, have_numbers, no_numbers, none_but}
use Rattle.validator_core.proofs.validator_core.whole_entries.candidates.Goals as goal

pub returns-in-Some-clause-named : goal.returns-in-Some-clause-named
returns-in-Some-clause-named c =
    let v = c.args.tables.now in
    let b = body_there v.held c.args.number c.in-Some.event.now (ap (option_map (λ e. e.now)) (sym c.in-Some.is) ∙ c.event.ensures) in
    if_ok_then c.set_of.result c.set_of.ensures.all (λ due all.
    have_numbers v c.requires.sound c.args.number b.0 b.1 c.waiting.result.now c.waiting.ensures c.said.result (c.said.ensures ∙ ap said_of b.2) due.keys c.named.result.now c.named.ensures.those all)

pub returns-in-Some-clause-no_others : goal.returns-in-Some-clause-no_others
returns-in-Some-clause-no_others c =
    let v = c.args.tables.now in
    let b = body_there v.held c.args.number c.in-Some.event.now (ap (option_map (λ e. e.now)) (sym c.in-Some.is) ∙ c.event.ensures) in
    if_ok_both c.set_of.result c.set_of.ensures.all c.set_of.ensures.rising (λ due all rising.
    have_no_others v c.requires.sound c.args.number b.0 b.1 c.waiting.result.now c.waiting.ensures c.said.result (c.said.ensures ∙ ap said_of b.2) due.keys c.named.result.now c.named.ensures.those all
    c.requires.left rising)

pub returns-in-None-clause-named : goal.returns-in-None-clause-named
returns-in-None-clause-named c = no_numbers c.args.tables.now c.requires.sound c.args.number
    (λ b at. not_some b.event (ap (option_map (λ e. e.now)) (sym c.in-None.is) ∙ c.event.ensures ∙ ap (option_map (λ d. d.event)) at)) c.new.result.keys

pub returns-in-None-clause-no_others : goal.returns-in-None-clause-no_others
returns-in-None-clause-no_others c = none_but c.args.tables.now c.requires.sound c.args.number
    (λ b at. not_some b.event (ap (option_map (λ e. e.now)) (sym c.in-None.is) ∙ c.event.ensures ∙ ap (option_map (λ d. d.event)) at)) c.new.result.keys c.new.ensures.ordered
