use Rattle.std.proofs.Common.{◌≤◌, ◌+◌, rules, sym, length, subst}
use Rattle.key_state.proofs.Numbers.{none_below}
use Rattle.journal.proofs.EventRulesLemmas.Filters.{more_places, push_few}
use Rattle.journal.proofs.event_rules.thresholds.revealed_below.Goals as goal

pub loop-place-init : goal.loop-place-init
loop-place-init g c = search (rules, c, none_below)

pub loop-place-preserved : goal.loop-place-preserved
loop-place-preserved g c = (
  more_places _ c.loop-place.place c.loop-place.places _ _ c.loop-place.invariant.0 c.push_if.ensures c.reveals-revealed.ensures,
  subst (λ xs. length xs ≤ c.loop-place.place + 1) (sym c.push_if.ensures) (push_few c.loop-place.places _ _ c.loop-place.place c.loop-place.invariant.1),
)
