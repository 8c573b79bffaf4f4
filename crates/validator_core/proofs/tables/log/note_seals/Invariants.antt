use Rattle.std.proofs.Common.{take}
use Rattle.std.specs.Prelude.{Contains}
use Rattle.event_backing.specs.declared.event_seal.EventSeal.{EventSeal}
use Rattle.escrow.specs.EventIndex.Keys.{numbers_at}
use Rattle.validator_core.specs.Tables.Hints.{KeepsBelow}
use Rattle.validator_core.specs.Tables.Names.{name_in, seal_key}
use Rattle.validator_core.proofs.TablesLemmas.Orders.{seal_cmp}
use Rattle.validator_core.proofs.tables.log.note_seals.Given as goal

abbrev pub invariant-loop-seal : goal.invariant-loop-seal
invariant-loop-seal l = record {
  added : (seal : EventSeal) → Contains (take l.seal-index l.seals) seal → Contains (numbers_at seal_cmp l.sealed (seal_key l.holder (name_in seal))) l.place;
  kept : KeepsBelow l.place (numbers_at seal_cmp l.initial.sealed) (numbers_at seal_cmp l.sealed);
}
