use Rattle.std.proofs.Common.{◌≡◌, ◌-◌, [], ◌∷◌, length, Some, sym, refl, ap, ◌∙◌, arith}
use Rattle.reader_hub.specs.ReaderHub.Hubs.{HubPass, head_of}
use Rattle.reader_hub.proofs.reader_threads.reader_seats.ReaderSeats.new.Goals as goal

pub returns : goal.returns
returns g c =
    let given = c.of-given.ensures in
    let n = c.args.count - 1 in
    let count : length c.in_ok-others.others.items ≡ n = c.in_ok-others.ensures.count in
    let now = c.in_ok-others.ensures.splits ∙ ap {A = HubPass} (λ (p : HubPass). record p { splits = n }) c.in_ok-hub.ensures.first in
    let same = ap (λ v. Some (head_of v)) (sym given) in
    let some = c.requires.some in
    let room = c.in_ok-room.ensures in
    record {
      mode_is = ap (λ v. v.mode) given;
      limits_are = refl;
      ready = record {
        limits_are = ap (λ v. v.limits) given ∙ c.requires.limits;
        turns = c.in_ok-hub.ensures.limit;
        all = omega (arith, count, some);
        few = omega arith;
        first = record {
          lock_is = c.split_off.ensures.pass;
          head_is = ap (λ p. p.head) now ∙ same;
          number_is = ap (λ p. p.number) now;
          splits_are = ap (λ p. p.splits) now ∙ sym count;
          own = ap (λ p. p.own) now ∙ ap (λ k. (k, []) ∷ []) (sym (ap (λ p. p.number) now));
          no_turns = ap (λ p. p.turns) now;
        };
        others = c.in_ok-others.ensures.seats (head_of c.of-given.result.value) (ap (λ p. p.head) c.in_ok-hub.ensures.first ∙ same);
        jobs = (c.in_ok-jobs.ensures.items, (let few = c.in_ok-jobs.ensures.capacity in omega (arith, few, count)));
        started = (room.started.0, (let few = room.started.1 in omega (arith, few, count)));
        passes = (room.passes.0, (let few = room.passes.1 in omega (arith, few, count)));
        readers = (room.readers.0, (let few = room.readers.1 in omega (arith, few, count)));
      };
    }
