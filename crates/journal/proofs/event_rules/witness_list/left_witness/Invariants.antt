use Rattle.std.proofs.Common.{◌≡◌, drop}
use Rattle.std.specs.Prelude.{filter, not, slice_get}
use Rattle.key_state.specs.Same as same
use Rattle.journal.proofs.event_rules.witness_list.left_witness.Given as goal

abbrev pub invariant-loop-place : goal.invariant-loop-place
invariant-loop-place l = slice_get (filter (λ k. not (same.has_key l.cuts k)) l.old) l.number ≡ slice_get (filter (λ k. not (same.has_key l.cuts k)) (drop l.place l.old)) l.left
