use Rattle.std.proofs.Common.{arith, rules, nat_lt}
use Rattle.std.proofs.lemmas.Bool.{ltb-true, ltb-false}
use Rattle.std.proofs.lemmas.List.Sorted.{IsPartitionPoint-from_clause}
use Rattle.escrow.proofs.EventIndexLemmas.Orders.{parted}
use Rattle.escrow.proofs.event_index.rising.place_of.Goals as goal

pub returns-clause-below : goal.returns-clause-below
returns-clause-below c = λ k h.
    let order = parted c.args.numbers.now c.args.number c.requires.rising in
    let point = IsPartitionPoint-from_clause (λ y. nat_lt y c.args.number) _ _ c.partition_point.ensures.partitioned order (λ a r q k. search rules) in
    ltb-true _ _ (point.0 k 0 (omega arith) h)

pub returns-clause-above : goal.returns-clause-above
returns-clause-above c = λ k low high.
    let order = parted c.args.numbers.now c.args.number c.requires.rising in
    let point = IsPartitionPoint-from_clause (λ y. nat_lt y c.args.number) _ _ c.partition_point.ensures.partitioned order (λ a r q k. search rules) in
    ltb-false _ _ (point.1 k 0 low high)
