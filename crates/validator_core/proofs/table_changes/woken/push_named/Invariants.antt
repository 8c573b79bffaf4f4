use Rattle.std.proofs.Common.{◌≡◌, ℕ, take}
use Rattle.std.specs.Prelude.{Contains}
use Rattle.escrow.specs.Escrow.Escrow.{Waits}
use Rattle.event_backing.specs.declared.event_seal.EventSeal.{EventSeal}
use Rattle.validator_core.proofs.table_changes.woken.push_named.Given as goal

abbrev pub invariant-loop-seal : goal.invariant-loop-seal
invariant-loop-seal l = record {
  kept : (n : ℕ) → Contains l.initial.numbers.items n → Contains l.numbers.items n;
  named : (n : ℕ) (seal : EventSeal) → Contains (take l.seal-index l.seals) seal → Waits n (λ w. w.said ≡ seal.said) l.waiting → Contains l.numbers.items n;
}
