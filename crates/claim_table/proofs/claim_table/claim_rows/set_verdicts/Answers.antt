use Rattle.std.proofs.Common.{ap, subst, sym, ◌∙◌, arith, ◌≡◌, ◌<◌, ◌+◌, ◌++◌, length, length-append, ℕ, Some, slice_get}
use Rattle.std.specs.Prelude.{slice_index_or}
use Rattle.claim_table.specs.ClaimTable.Counts.{is_entered}
use Rattle.claim_table.specs.ClaimTable.Keeping.{at_place}
use Rattle.claim_table.specs.declared.claim_table.row.Row.{Row}
use Rattle.claim_table.specs.ClaimTable.Rows.{with_verdict, with_verdicts}
use Rattle.claim_table.proofs.ClaimTableLemmas.Setting.{all_set, done_more, entries_now, rest_more}
use Rattle.claim_table.proofs.claim_table.claim_rows.set_verdicts.Goals as goal

pub set_verdict-requires-clause-entries : goal.set_verdict-requires-clause-entries
set_verdict-requires-clause-entries c =
    entries_now c.args.signature.now c.args.verdict c.args.rows.now.items c.loop-k.rows.items c.loop-k.invariant.rest (is_entered c.args.counts.now) (is_entered c.loop-k.counts) c.loop-k.invariant.entries c.requires.entries

set_there : (c : goal.After-set_verdict) → c.set_verdict.new.rows.items ≡ at_place (slice_index_or (c.args.few.now ++ c.args.many.now) c.loop-k.k 0) (with_verdict c.args.signature.now c.args.verdict) c.loop-k.rows.items
set_there c = c.set_verdict.ensures.rows ∙ ap (λ place. at_place place (with_verdict c.args.signature.now c.args.verdict) c.loop-k.rows.items) c.place_at-place.ensures

pub loop-k-preserved : goal.loop-k-preserved
loop-k-preserved c =
    let s = c.args.signature.now in let v = c.args.verdict in let rows = c.loop-k.rows.items in let places = c.args.few.now ++ c.args.many.now in let index = c.loop-k.k in let within : index < length places = omega (arith, c.loop-k-test.true, length-append c.args.few.now c.args.many.now) in record {
      rest = ap (with_verdicts s v) (set_there c) ∙ rest_more s v c.args.rows.now.items rows c.loop-k.invariant.rest (slice_index_or places index 0);
      done = subst (λ now. (k n : ℕ) (r : Row) → k < index + 1 → slice_index_or places k n ≡ n → slice_get now n ≡ Some r → with_verdict s v r ≡ r) (sym (set_there c))
          (done_more s v rows places index within c.loop-k.invariant.done);
      counted = c.set_verdict.ensures.counted;
      entries = λ q. c.set_verdict.ensures.entries q ∙ c.loop-k.invariant.entries q;
    }

pub returns-clause-rows : goal.returns-clause-rows
returns-clause-rows c = all_set c.args.signature.now c.args.verdict c.args.rows.now.items c.loop-k.rows.items c.loop-k.invariant.rest (c.args.few.now ++ c.args.many.now) c.requires.all
    (λ k n r lt is e. c.loop-k.invariant.done k n r (omega (arith, lt, c.loop-k-test.false, length-append c.args.few.now c.args.many.now)) is e)
