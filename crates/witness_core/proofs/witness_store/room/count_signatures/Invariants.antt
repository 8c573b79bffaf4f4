use Rattle.std.proofs.Common.{◌≡◌, ◌≤◌, take}
use Rattle.witness_core.specs.WitnessStore.Room.{signatures_in}
use Rattle.witness_core.proofs.witness_store.room.count_signatures.Given as goal

-- those among the claims so far are counted
abbrev pub invariant-loop-claim : goal.invariant-loop-claim
invariant-loop-claim l = record {
  counted : l.count ≡ signatures_in (take l.claim-index l.claims);
  few : l.count ≤ l.claim-index;
}
