use Rattle.std.proofs.Common.{rules, ◌≡◌, ◌+◌, ◌∷◌, ◌++◌, [], ap, ◌∙◌, sym, subst, arith, length, length-append, suc}
use Rattle.turn_lock.specs.Known.{after_split, split_from}
use Rattle.turn_lock.specs.Locks.{known, lock, lock_of}
use Rattle.reader_hub.specs.ReaderThreads.Jobs.{passes_seen}
use Rattle.reader_hub.specs.ReaderThreads.Seats.{AreSeats}
use Rattle.reader_hub.proofs.ReaderThreadsLemmas.Seats.{seats_behind}
use Rattle.reader_hub.proofs.reader_threads.passes.split_off.Goals as goal

pub loop-init : goal.loop-init
loop-init c =
    let empty = c.in_ok-passes.ensures.items in (
      c.requires.pass,
      omega arith,
      ap length empty,
      ap (λ n. record (known c.args.first.now) { splits = n }) c.requires.unsplit,
      λ head is. subst (λ l. AreSeats (lock c.args.hub.now.turn) head 1 (passes_seen l)) (sym empty) tt,
    )

pub loop-preserved : goal.loop-preserved
loop-preserved c =
    let inv = c.loop.invariant in
    let id = lock c.args.hub.now.turn in
    let n = c.loop.counter in
    let so_far = inv.3 in
    let passes = c.loop.passes.items in
    let pass = c.in_ok-pass.pass in
    let items : c.push.new.self.items ≡ passes ++ pass ∷ [] = c.in_ok-push.ensures.items in
    let left : known c.split.new.pass ≡ after_split (known c.loop.first) = search rules in
    let right : known pass ≡ split_from (known c.loop.first) = search rules in
    let there : lock_of pass ≡ id = search rules in
    let next : n + 1 ≡ suc n = omega arith in (
      search rules,
      (let more = c.loop-test.true in omega (arith, more)),
      (let long = ap length items ∙ length-append passes (pass ∷ []) in let count = inv.2 in omega (arith, long, count)),
      left ∙ (ap after_split so_far ∙ ap (λ m. record (known c.args.first.now) { splits = m }) (sym next)),
      λ head is. subst (λ l. AreSeats id head 1 (passes_seen l)) (sym items)
          (seats_behind id head 1 passes pass (suc n) (inv.4 head is) (let count = inv.2 in omega (arith, count))
          record {
            lock_is = there;
            head_is = ap (λ v. v.head) right ∙ (ap (λ v. v.head) so_far ∙ is);
            number_is = ap (λ v. v.number) right ∙ ap (λ v. suc v.splits) so_far;
            splits_are = ap (λ v. v.splits) right;
            own = ap (λ v. v.own) right ∙ ap (λ k. (k, []) ∷ []) (sym (ap (λ v. v.number) right));
            no_turns = ap (λ v. v.turns) right;
          }),
    )

pub returns-clause-splits : goal.returns-clause-splits
returns-clause-splits c =
    let inv = c.loop.invariant in
    let all : c.loop.counter ≡ c.args.count = (let ended = c.loop-test.false in let few = inv.1 in omega (arith, ended, few)) in
    inv.3 ∙ ap (λ n. record (known c.args.first.now) { splits = n }) all

pub returns-clause-count : goal.returns-clause-count
returns-clause-count c =
    let inv = c.loop.invariant in
    let ended = c.loop-test.false in
    let few = inv.1 in
    let count = inv.2 in
    omega (arith, ended, few, count)
