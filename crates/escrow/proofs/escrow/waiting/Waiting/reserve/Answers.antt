use Rattle.std.proofs.Common.{◌≡◌, ◌<◌, ℕ, refl, ap, subst, nat_eq, Some, arith}
use Rattle.std.specs.Map.{lookup}
use Rattle.std.specs.Option.{ForSome}
use Rattle.indexmap.specs.IndexMap.{get, spare}
use Rattle.escrow.specs.Escrow.Escrow.{room_for}
use Rattle.escrow.specs.Escrow.Tables.{numbers_at, room_at}
use Rattle.escrow.proofs.EscrowLemmas.Held.{some_of}
use Rattle.escrow.proofs.EscrowLemmas.Tables.{has-same, room-kept}
use Rattle.escrow.proofs.escrow.waiting.Waiting.reserve.Goals as goal

pub invariant_of-self : goal.invariant_of-self
invariant_of-self c =
    let inside = c.self.inside in
    let is : (q : ℕ) → get nat_eq c.reserve.new.self q ≡ get nat_eq inside.waiters q = λ q. ap (lookup (nat_eq q)) c.reserve.ensures.entries in (
      has-same (λ v. v.prior) (get nat_eq inside.waiters) (get nat_eq c.reserve.new.self) (numbers_at inside.by_prior) (numbers_at inside.by_prior) c.self.invariant.0 is (λ d. refl),
      has-same (λ v. Some v.said) (get nat_eq inside.waiters) (get nat_eq c.reserve.new.self) (numbers_at inside.by_said) (numbers_at inside.by_said) c.self.invariant.1 is (λ d. refl),
      room-kept inside.room (spare inside.waiters) (spare c.reserve.new.self) (room_at inside.by_prior) (room_at inside.by_prior) (room_at inside.by_said) (room_at inside.by_said) c.self.invariant.2 c.reserve.ensures.room.0 (λ r d is e. omega arith) (λ r is. omega arith),
    )

pub invariant_of-self-in_err-reserve-2 : goal.invariant_of-self-in_err-reserve-2
invariant_of-self-in_err-reserve-2 c =
    let inside = c.self.inside in
    let is : (q : ℕ) → get nat_eq c.reserve.new.self q ≡ get nat_eq inside.waiters q = λ q. ap (lookup (nat_eq q)) c.reserve.ensures.entries in (
      has-same (λ v. v.prior) (get nat_eq inside.waiters) (get nat_eq c.reserve.new.self) (numbers_at inside.by_prior) (numbers_at c.reserve-2.new.self) c.self.invariant.0 is c.reserve-2.ensures.same,
      has-same (λ v. Some v.said) (get nat_eq inside.waiters) (get nat_eq c.reserve.new.self) (numbers_at inside.by_said) (numbers_at inside.by_said) c.self.invariant.1 is (λ d. refl),
      room-kept inside.room (spare inside.waiters) (spare c.reserve.new.self) (room_at inside.by_prior) (room_at c.reserve-2.new.self) (room_at inside.by_said) (room_at inside.by_said) c.self.invariant.2 c.reserve.ensures.room.0 (λ r d is e. c.reserve-2.ensures.kept d) (λ r is. omega arith),
    )

pub invariant_of-self-in_err-reserve-3 : goal.invariant_of-self-in_err-reserve-3
invariant_of-self-in_err-reserve-3 c =
    let inside = c.self.inside in
    let is : (q : ℕ) → get nat_eq c.reserve.new.self q ≡ get nat_eq inside.waiters q = λ q. ap (lookup (nat_eq q)) c.reserve.ensures.entries in (
      has-same (λ v. v.prior) (get nat_eq inside.waiters) (get nat_eq c.reserve.new.self) (numbers_at inside.by_prior) (numbers_at c.reserve-2.new.self) c.self.invariant.0 is c.reserve-2.ensures.same,
      has-same (λ v. Some v.said) (get nat_eq inside.waiters) (get nat_eq c.reserve.new.self) (numbers_at inside.by_said) (numbers_at c.reserve-3.new.self) c.self.invariant.1 is c.reserve-3.ensures.same,
      room-kept inside.room (spare inside.waiters) (spare c.reserve.new.self) (room_at inside.by_prior) (room_at c.reserve-2.new.self) (room_at inside.by_said) (room_at c.reserve-3.new.self) c.self.invariant.2 c.reserve.ensures.room.0 (λ r d is e. c.reserve-2.ensures.kept d) (λ r is. c.reserve-3.ensures.kept r.said),
    )

pub invariant_of-self-2 : goal.invariant_of-self-2
invariant_of-self-2 c =
    let inside = c.self.inside in
    let is : (q : ℕ) → get nat_eq c.reserve.new.self q ≡ get nat_eq inside.waiters q = λ q. ap (lookup (nat_eq q)) c.reserve.ensures.entries in (
      has-same (λ v. v.prior) (get nat_eq inside.waiters) (get nat_eq c.reserve.new.self) (numbers_at inside.by_prior) (numbers_at c.reserve-2.new.self) c.self.invariant.0 is c.reserve-2.ensures.same,
      has-same (λ v. Some v.said) (get nat_eq inside.waiters) (get nat_eq c.reserve.new.self) (numbers_at inside.by_said) (numbers_at c.reserve-3.new.self) c.self.invariant.1 is c.reserve-3.ensures.same,
      λ r e. subst (λ r. (0 < spare c.reserve.new.self) × ForSome r.prior (λ d. 0 < room_at c.reserve-2.new.self d) × (0 < room_at c.reserve-3.new.self r.said)) (some_of (room_for c.args.waiter.now) r e)
          (omega (arith, c.in_ok-reserve.ensures.ok), c.in_ok-reserve-2.ensures.room, c.in_ok-reserve-3.ensures.room c.args.waiter.now.said refl),
    )
