use Rattle.std.proofs.Common.{rules, subst, ap, ◌∙◌, sym, length, is_some, arith, ◌≤◌}
use mathlib.Core.List.{IsPrefix}
use Rattle.turn_lock.specs.Histories.{has_share}
use Rattle.turn_lock.proofs.Histories.{has_share-append, length-longer, longer_begins}
use Rattle.turn_lock.proofs.SeatSteps.{joins}
use Rattle.turn_lock.proofs.TurnSteps.{compares}
use Rattle.turn_lock.proofs.turn.Turn.merge.Goals as goal

pub join_seat-requires : goal.join_seat-requires
join_seat-requires g c =
    let idle = c.requires.idle in
    (search rules, search rules, search rules, search rules, joins _ _ _ _ _ _ _ _ idle.0.1 idle.1.1 c.requires.live.0)

pub load-requires : goal.load-requires
load-requires g c = (search rules, search rules, compares _ _ _ _ _ _ _)

pub returns : goal.returns
returns g c =
    let v = c.args.seat.now.me.0 in
    let w = c.args.other.me.0 in
    let joined = c.join_seat.ensures.2 in
    let told = c.load.ensures.2 in
    let is = told.0 ∙ joined in
    let seen = ap (λ m. m.0.seen) is in
    let compared = subst (λ m. (length m.0.beside ≤ length m.0.seen → IsPrefix m.0.beside m.0.seen)) joined told.2 in
    record {
      lock = search rules;
      idle = (ap (λ m. m.1) is ∙ c.requires.idle.0.0, ap (λ m. m.0.stage) is ∙ c.requires.idle.0.1);
      live = (ap (λ m. has_share m.0.own m.0.number) is ∙ has_share-append v.own w.own v.number c.requires.live.0, ap (λ m. is_some m.0.head) is ∙ c.requires.live.1);
      front = ap length seen ∙ length-longer v.seen w.seen;
      turns = (let few = told.1 in let same = ap (λ m. m.0.turns) told.0 in omega (arith, c.load.type_inv));
      joined = record {
        same = (ap (λ m. m.0.head) is, ap (λ m. m.0.number) is);
        seen = seen;
        begins = subst (λ l. IsPrefix v.seen l × IsPrefix w.seen l) (sym seen) (longer_begins v.seen w.seen compared);
        own = ap (λ m. m.0.own) is;
        past = ap (λ m. m.0.past) is;
        splits = ap (λ m. m.0.splits) is;
        turns = ap (λ m. m.0.turns) is;
      };
    }
