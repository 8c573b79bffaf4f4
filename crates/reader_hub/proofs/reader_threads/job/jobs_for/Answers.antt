use Rattle.std.proofs.Common.{rules, ◌≡◌, ◌++◌, ap, ◌∙◌, arith, length, map, inl, inr}
use Rattle.std.proofs.lemmas.List.{nil_from_length}
use Rattle.std.specs.Iterator.Adapters.{zip_first, zip_second}
use Rattle.std.specs.Vec.Iter.{into_iter_items}
use Rattle.reader_hub.proofs.ReaderThreadsLemmas.Seats.{parts_all, parts_more}
use Rattle.reader_hub.proofs.reader_threads.job.jobs_for.Goals as goal

pub loop-pass-init : goal.loop-pass-init
loop-pass-init g c =
    let zip = c.zip-pass-items.ensures in
    let gives = c.into_iter-pass-iterator.ensures.into_iter_gives in
    let empty = c.requires.room.0 in
    let passes : into_iter_items (zip_first c.into_iter-pass-iterator.result) ≡ c.args.passes.items =
    ap (λ z. into_iter_items (zip_first z)) gives ∙ (ap into_iter_items zip.first ∙ c.into_iter.ensures.rest) in
    let given : into_iter_items (zip_second c.into_iter-pass-iterator.result) ≡ c.args.providers.items = ap (λ z. into_iter_items (zip_second z)) gives ∙ zip.second.0 in
    let first = ap length passes in
    let second = ap length given in
    let same = c.requires.same in
    let few = c.requires.room.1 in
    let none = ap length empty in
    let all = c.args.passes.ok.0 in
    let others = c.args.providers.ok.0 in
    let here = c.args.room.ok.0 in (
      search rules,
      search rules,
      omega (arith, first, second, same, all, others),
      omega (arith, first, few, none, all, here),
      ap (λ l. map (λ job. job.pass) l ++ into_iter_items (zip_first c.into_iter-pass-iterator.result)) empty ∙ passes,
      ap (λ l. map (λ job. job.providers) l ++ into_iter_items (zip_second c.into_iter-pass-iterator.result)) empty ∙ given,
    )

pub loop-pass-preserved : goal.loop-pass-preserved
loop-pass-preserved g c =
    let inv = c.loop-pass.invariant in
    let steps = c.in-Some.ensures.steps in
    let passes = steps.0.0 in
    let given = steps.1.0 in
    let pushed = c.push_reserved.ensures in
    let first = ap length passes in
    let second = ap length given in
    let same = inv.2 in
    let room = inv.3 in
    let len = pushed.len in
    let capacity = pushed.capacity in (
      search rules,
      search rules,
      omega (arith, first, second, same),
      omega (arith, first, room, len, capacity),
      parts_more (λ job. job.pass) c.loop-pass.jobs.items _ c.args.passes.items inv.4 _ _ c.push_reserved.new.self.items passes pushed.items,
      parts_more (λ job. job.providers) c.loop-pass.jobs.items _ c.args.providers.items inv.5 _ _ c.push_reserved.new.self.items given pushed.items,
    )

-- where one of both has no more, neither has
pub returns-clause-passes : goal.returns-clause-passes
returns-clause-passes g c =
    let inv = c.loop-pass.invariant in
    let rest = c.loop-pass.pass-iterator in
    let same = inv.2 in
    let first = (zip_first rest).rest.ok.0 in
    let second = (zip_second rest).rest.ok.0 in
    parts_all (λ job. job.pass) c.loop-pass.jobs.items _ c.args.passes.items inv.4
    (nil_from_length (into_iter_items (zip_first rest)) (elim c.in-None.ensures.steps [
      | inl none ↦ (let zero = none.1.0 in omega (arith, zero, first))
      | inr none ↦ (let zero = none.1.0 in omega (arith, zero, second, same))
    ]))

pub returns-clause-providers : goal.returns-clause-providers
returns-clause-providers g c =
    let inv = c.loop-pass.invariant in
    let rest = c.loop-pass.pass-iterator in
    let same = inv.2 in
    let first = (zip_first rest).rest.ok.0 in
    let second = (zip_second rest).rest.ok.0 in
    parts_all (λ job. job.providers) c.loop-pass.jobs.items _ c.args.providers.items inv.5
    (nil_from_length (into_iter_items (zip_second rest)) (elim c.in-None.ensures.steps [
      | inl none ↦ (let zero = none.1.0 in omega (arith, zero, first, same))
      | inr none ↦ (let zero = none.1.0 in omega (arith, zero, second))
    ]))
