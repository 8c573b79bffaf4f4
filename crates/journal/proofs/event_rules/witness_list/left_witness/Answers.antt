use Rattle.std.proofs.Common.{refl, rules}
use Rattle.std.proofs.lemmas.List.{drop_all}
use Rattle.journal.proofs.EventRulesLemmas.Searching.{met, passed}
use Rattle.journal.proofs.event_rules.witness_list.left_witness.Goals as goal

pub loop-place-init : goal.loop-place-init
loop-place-init c = refl

pub returns-then-left-eq0 : goal.returns-then-left-eq0
returns-then-left-eq0 c = search (rules, c, met)

pub loop-place-preserved : goal.loop-place-preserved
loop-place-preserved c = search (rules, c, met, passed)

pub returns : goal.returns
returns c = search (rules, c, drop_all)
