use Rattle.std.proofs.Common.{◌≡◌, ◌≤◌, ◌+◌, length, take}
use Rattle.key_state.specs.Same.{same_key, distinct}
use Rattle.quorum_laws.specs.Agreement.{union}
use Rattle.quorum_laws.proofs.unions.added.Given as goal

-- the keys so far are counted, each at its first coming
abbrev pub invariant-loop-i : goal.invariant-loop-i
invariant-loop-i l = record {
  counted : length (distinct same_key l.known) + l.count ≡ length (union l.known (take l.i l.keys));
  few : l.count ≤ l.i;
}
