use Rattle.std.proofs.Common.{rules, tests}
use Rattle.std.proofs.lemmas.Iterator.{YieldsList-from_slice}
use Rattle.std.proofs.lemmas.Iterator.Search.{position_from_yields_List}
use Rattle.key_state.specs.Same.{same_key}
use Rattle.journal.proofs.EventRulesLemmas.ChangedPlaces.{none_has}
use Rattle.journal.proofs.event_rules.witness_list.place_in.Goals as goal

pub returns-clause-none : goal.returns-clause-none
returns-clause-none c = none_has c.args.keys.now c.args.key.now c.position.result
    (position_from_yields_List (λ held. same_key held c.args.key.now) _ _ c.position.result c.position.ensures.ran (YieldsList-from_slice c.args.keys.now cc) (λ x b q k. search (rules, tests)))
