use Rattle.std.proofs.Common.{◌≡◌, take, drop, length}
use Rattle.validator_core.specs.Tables.AcceptedLog.Values.{undone_all}
use Rattle.validator_core.proofs.tables.accepted_log.states.undo_from.Given as goal

-- what is left gives the same
abbrev pub invariant-loop-places : goal.invariant-loop-places
invariant-loop-places l = record {
  front : take l.len l.places.items ≡ take l.len l.fn.places.items;
  states_left : undone_all (drop l.len l.places.items) l.states.items ≡ undone_all (drop l.len l.fn.places.items) l.fn.states.items;
}

abbrev pub decreases-loop-places : goal.decreases-loop-places
decreases-loop-places l = length l.places.items
