use Rattle.std.proofs.Common.{ap, subst, sym, arith, ◌∙◌, length, is_some}
use Rattle.turn_lock.specs.Histories.{has_share}
use Rattle.turn_lock.specs.Known.{known_of}
use Rattle.turn_lock.specs.Passes.{AppendsAtMostOne}
use Rattle.turn_lock.proofs.Histories.{has_share-longer_share}
use Rattle.turn_lock.proofs.Acting.{whole_turn}
use Rattle.turn_lock.proofs.turn.Turn.with_turn.Goals as goal

pub perform-result-requires-clause-act : goal.perform-result-requires-clause-act
perform-result-requires-clause-act g c =
    let r = g.V.Replayed in
    subst (λ m. AppendsAtMostOne r.entries r.head r.names g.F.FnOnce c.args.act (known_of m.0)) (sym c.in-Some.ensures.turn.0) c.requires.act

pub invariant_of-pass-2 : goal.invariant_of-pass-2
invariant_of-pass-2 g c =
    let r = g.V.Replayed in
    let old = c.args.pass.now in
    let v = old.seat.me.0 in
    let some = c.in-Some.ensures.turn in
    let t = whole_turn r.entries r.head r.names g.F.FnOnce c.args.act c.args.self.now.limit _ v _ _ _ _ _ some.1 some.3 some.0 c.perform-result.ensures.performed c.release.ensures.given in
    record {
      idle = (ap (λ m. m.1) t.is, ap (λ m. m.0.stage) t.is);
      live = (
        ap (λ m. has_share m.0.own m.0.number) t.is ∙ (has_share-longer_share v.number t.es v.own v.number ∙ old.live.0),
        ap (λ m. is_some m.0.head) t.is ∙ old.live.1,
      );
      seen = t.counted ∙ sym (ap (λ m. length m.0.seen) t.is);
      numbers = (
        old.numbers.0 ∙ sym (ap (λ m. m.0.number) t.is),
        (let q = ap (λ m. m.0.past) t.is in omega arith),
        old.numbers.2 ∙ sym (ap (λ m. m.0.splits) t.is),
        (let k = old.numbers.3 in let q = ap (λ m. m.0.turns) t.is in omega arith),
      );
    }

pub returns-clause-turned : goal.returns-clause-turned
returns-clause-turned g c =
    let r = g.V.Replayed in
    let some = c.in-Some.ensures.turn in
    (whole_turn r.entries r.head r.names g.F.FnOnce c.args.act c.args.self.now.limit _ c.args.pass.now.seat.me.0 _ _ _ _ _ some.1 some.3 some.0 c.perform-result.ensures.performed c.release.ensures.given).turned
