use Rattle.std.proofs.Common.{◌≤◌, ◌+◌, rules, sym, length, subst}
use Rattle.key_state.proofs.Numbers.{none_below}
use Rattle.journal.proofs.EventRulesLemmas.Filters.{more_places, push_few}
use Rattle.journal.proofs.event_rules.thresholds.indices_below.Goals as goal

pub loop-index-init : goal.loop-index-init
loop-index-init g c = search (rules, c, none_below)

pub loop-index-preserved : goal.loop-index-preserved
loop-index-preserved g c = (
  more_places _ c.loop-index.index c.loop-index.indices _ _ c.loop-index.invariant.0 c.push_if.ensures c.has_index-signed.ensures,
  subst (λ xs. length xs ≤ c.loop-index.index + 1) (sym c.push_if.ensures) (push_few c.loop-index.indices _ _ c.loop-index.index c.loop-index.invariant.1),
)
