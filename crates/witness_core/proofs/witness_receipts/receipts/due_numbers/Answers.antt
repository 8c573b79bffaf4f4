use Rattle.std.proofs.Common.{◌<◌, [], length, sym, ap, subst, ◌∙◌}
use Rattle.std.specs.Prelude.{All}
use Rattle.std.specs.List.{cons_option}
use Rattle.std.proofs.lemmas.List.Elements.{All-append}
use Rattle.journal.specs.Journal.Journals.{chosen}
use Rattle.validator_core.specs.ValidatorCore.View.{accepted_by}
use Rattle.witness_core.proofs.WitnessReceiptsLemmas.Owns.{due_is, if_ok_then}
use Rattle.witness_core.proofs.witness_receipts.receipts.due_numbers.Goals as goal

pub returns-clause-due : goal.returns-clause-due
returns-clause-due c =
    let core = c.args.core.now in
    let since = c.in_ok-numbers.numbers.items in
    let own = cons_option c.own_listed.result [] in
    if_ok_then c.with_own.result c.with_own.ensures (λ all is b at. ap (chosen core.held) is
    ∙ due_is core.held (accepted_by core) c.args.key.now c.args.front b.bytes since own c.requires.front c.in_ok-numbers.ensures.those (c.own_listed.ensures.own b at))

pub returns-clause-held : goal.returns-clause-held
returns-clause-held c =
    let core = c.args.core.now in
    let since = c.in_ok-numbers.numbers.items in
    let own = cons_option c.own_listed.result [] in
    if_ok_then c.with_own.result c.with_own.ensures (λ all is. subst (All (λ n. n < length core.held)) (sym is)
    (All-append (λ n. n < length core.held) since own c.in_ok-numbers.ensures.held c.own_listed.ensures.held))
