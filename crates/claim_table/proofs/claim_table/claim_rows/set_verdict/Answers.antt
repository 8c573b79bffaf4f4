use Rattle.std.proofs.Common.{◌≡◌, Some, arith, length, slice_get, sym, subst, ◌∙◌, ap, true, set}
use Rattle.claim_table.specs.ClaimTable.Counts.{amount}
use Rattle.claim_table.specs.ClaimTable.Keeping.{AreCounted, at_place, is_of_at}
use Rattle.claim_table.specs.ClaimTable.Rows.{is_of, with_verdict}
use Rattle.claim_table.proofs.ClaimTableLemmas.Lists.{set_at_place}
use Rattle.claim_table.proofs.ClaimTableLemmas.Rows.{set_there}
use Rattle.claim_table.proofs.ClaimTableLemmas.Setting.{can_count, counted_set, found_there, read_there, set_nothing}
use Rattle.claim_table.proofs.claim_table.claim_rows.set_verdict.Goals as goal

pub returns-then-not-is_row_of-clause-rows : goal.returns-then-not-is_row_of-clause-rows
returns-then-not-is_row_of-clause-rows c = set_nothing c.args.signature.now c.args.verdict c.args.rows.now.items c.args.place
    (ap (λ rows. is_of_at c.args.signature.now (slice_get rows c.args.place)) (sym c.as_slice.ensures.value) ∙ sym c.is_row_of.ensures ∙ c.if-not-is_row_of.true)

pub index-requires : goal.index-requires
index-requires c =
    let lt = found_there c.args.signature.now c.args.verdict c.args.rows.now.items c.args.place
    (ap (λ rows. is_of_at c.args.signature.now (slice_get rows c.args.place)) (sym c.as_slice.ensures.value) ∙ sym c.is_row_of.ensures ∙ c.if-not-is_row_of.false) in
    let same = ap length c.as_slice.ensures.value in omega (arith, lt, same, c.as_slice.ensures.len)

pub index_mut-requires : goal.index_mut-requires
index_mut-requires c =
    let lt = found_there c.args.signature.now c.args.verdict c.args.rows.now.items c.args.place
    (ap (λ rows. is_of_at c.args.signature.now (slice_get rows c.args.place)) (sym c.as_slice.ensures.value) ∙ sym c.is_row_of.ensures ∙ c.if-not-is_row_of.false) in
    let same = ap length c.as_slice.ensures.value in omega (arith, lt, same, c.as_slice.ensures.len)

pub count_yes-requires-clause-entered : goal.count_yes-requires-clause-entered
count_yes-requires-clause-entered c = λ q b.
    let at = read_there c.args.signature.now c.args.verdict c.args.rows.now.items c.args.place c.index.result.now
    (ap (λ rows. is_of_at c.args.signature.now (slice_get rows c.args.place)) (sym c.as_slice.ensures.value) ∙ sym c.is_row_of.ensures ∙ c.if-not-is_row_of.false) c.index.ensures in
    c.uncount_yes.ensures.kept q ∙ c.requires.entries c.args.place c.index.result.now q at.0 b

pub count_yes-requires-clause-few : goal.count_yes-requires-clause-few
count_yes-requires-clause-few c = λ q b.
    let s = c.args.signature.now in let v = c.args.verdict in let r = c.index.result.now in
    let at = read_there s v c.args.rows.now.items c.args.place r (ap (λ rows. is_of_at s (slice_get rows c.args.place)) (sym c.as_slice.ensures.value) ∙ sym c.is_row_of.ensures ∙ c.if-not-is_row_of.false) c.index.ensures in
    can_count s v c.args.rows.now.items c.args.place r q (amount c.args.counts.now q) (amount c.uncount_yes.new.self q) at.0 (set_there s v r at.1) (c.uncount_yes.ensures.amounts q) (c.requires.counted q) b c.requires.few

there : (c : goal.After-rows-1) → (slice_get c.args.rows.now.items c.args.place ≡ Some c.index.result.now) × (is_of c.args.signature.now c.index.result.now ≡ true)
there c = read_there c.args.signature.now c.args.verdict c.args.rows.now.items c.args.place c.index.result.now
    (ap (λ rows. is_of_at c.args.signature.now (slice_get rows c.args.place)) (sym c.as_slice.ensures.value) ∙ sym c.is_row_of.ensures ∙ c.if-not-is_row_of.false) c.index.ensures

rows_are : (c : goal.After-rows-1) → set c.args.rows.now.items c.args.place (record { claimed = c.index.result.now.claimed; verdict = c.args.verdict }) ≡ at_place c.args.place (with_verdict c.args.signature.now c.args.verdict) c.args.rows.now.items
rows_are c = set_at_place (with_verdict c.args.signature.now c.args.verdict) c.args.rows.now.items c.args.place c.index.result.now _ (there c).0 (set_there c.args.signature.now c.args.verdict c.index.result.now (there c).1)

pub returns-clause-rows : goal.returns-clause-rows
returns-clause-rows c = rows_are c

pub returns-clause-counted : goal.returns-clause-counted
returns-clause-counted c =
    let s = c.args.signature.now in let v = c.args.verdict in let r = c.index.result.now in let at = there c in
    subst (λ rows. AreCounted rows (amount c.count_yes.new.self)) (sym (rows_are c))
    (counted_set s v c.args.rows.now.items c.args.place r (amount c.args.counts.now) (amount c.uncount_yes.new.self) (amount c.count_yes.new.self) at.0 (set_there s v r at.1) c.uncount_yes.ensures.amounts c.count_yes.ensures.amounts c.requires.counted)
