use Rattle.std.proofs.Common.{◌≡◌, ◌≤◌, true, false, length, refl, sym, ap, subst}
use Rattle.std.specs.Prelude.{Contains, IfOk}
use Rattle.std.proofs.lemmas.Option.{slice_get_read}
use Rattle.escrow.specs.EventIndex.Keys.{numbers_in}
use Rattle.claim_table.proofs.ClaimTableLemmas.Hinted.{few_changed}
use Rattle.claim_table.proofs.ClaimTableLemmas.Places.{set_here}
use Rattle.claim_table.proofs.claim_table.body_numbers.add_few.Goals as goal

pub returns-clause-added : goal.returns-clause-added
returns-clause-added c =
    let there = slice_get_read c.reach.new.few.items (length c.reach.new.few.items) c.args.body c.index_mut.result.now refl c.in_ok-reach.ensures.there c.index_mut.ensures.value in
    let is = ap numbers_in (set_here c.reach.new.few.items c.args.body c.index_mut.result.now c.put.new.numbers there) in
    subst (λ ks. IfOk c.put.result (λ among. among ≡ true → Contains ks c.args.number)) (sym is) c.put.ensures.added

pub returns-clause-full : goal.returns-clause-full
returns-clause-full c =
    let there = slice_get_read c.reach.new.few.items (length c.reach.new.few.items) c.args.body c.index_mut.result.now refl c.in_ok-reach.ensures.there c.index_mut.ensures.value in
    let is = ap numbers_in (set_here c.reach.new.few.items c.args.body c.index_mut.result.now c.put.new.numbers there) in
    subst (λ ks. IfOk c.put.result (λ among. among ≡ false → 8 ≤ length ks)) (sym is) c.put.ensures.full

pub returns-clause-kept : goal.returns-clause-kept
returns-clause-kept c = λ b n h.
    let there = slice_get_read c.reach.new.few.items (length c.reach.new.few.items) c.args.body c.index_mut.result.now refl c.in_ok-reach.ensures.there c.index_mut.ensures.value in
    few_changed (λ old new. Contains old n → Contains new n) c.reach.new.few.items c.args.body c.index_mut.result.now c.put.new.numbers there (c.put.ensures.kept n) (λ ks k. k) b
    (subst (λ ks. Contains ks n) (sym (c.in_ok-reach.ensures.same b)) h)

pub returns-clause-still : goal.returns-clause-still
returns-clause-still c = λ b h.
    let there = slice_get_read c.reach.new.few.items (length c.reach.new.few.items) c.args.body c.index_mut.result.now refl c.in_ok-reach.ensures.there c.index_mut.ensures.value in
    few_changed (λ old new. 8 ≤ length old → 8 ≤ length new) c.reach.new.few.items c.args.body c.index_mut.result.now c.put.new.numbers there c.put.ensures.still (λ ks k. k) b
    (subst (λ ks. 8 ≤ length ks) (sym (c.in_ok-reach.ensures.same b)) h)
