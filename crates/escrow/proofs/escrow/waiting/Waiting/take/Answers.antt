use Rattle.std.proofs.Common.{◌≡◌, ℕ, cond, refl, sym, ap, ◌∙◌, nat_eq, Some, None, arith}
use Rattle.std.specs.Prelude.{◌==◌}
use Rattle.std.specs.Map.{lookup}
use Rattle.indexmap.specs.IndexMap.{get, spare}
use Rattle.escrow.specs.Escrow.Escrow.{held}
use Rattle.escrow.specs.Escrow.Tables.{numbers_at, room_at}
use Rattle.escrow.proofs.EscrowLemmas.Held.{get-entries, held-changed}
use Rattle.escrow.proofs.EscrowLemmas.Tables.{has-same, has-without, room-kept}
use Rattle.escrow.proofs.escrow.waiting.Waiting.take.Goals as goal

pub invariant_of-self : goal.invariant_of-self
invariant_of-self c =
    let inside = c.self.inside in
    let is : (q : ℕ) → get nat_eq c.swap_remove.new.self q ≡ get nat_eq inside.waiters q = λ q. ap (lookup (nat_eq q)) c.in_err-waiter.ensures.unchanged in (
      has-same (λ v. v.prior) (get nat_eq inside.waiters) (get nat_eq c.swap_remove.new.self) (numbers_at inside.by_prior) (numbers_at inside.by_prior) c.self.invariant.0 is (λ d. refl),
      has-same (λ v. Some v.said) (get nat_eq inside.waiters) (get nat_eq c.swap_remove.new.self) (numbers_at inside.by_said) (numbers_at inside.by_said) c.self.invariant.1 is (λ d. refl),
      room-kept inside.room (spare inside.waiters) (spare c.swap_remove.new.self) (room_at inside.by_prior) (room_at inside.by_prior) (room_at inside.by_said) (room_at inside.by_said) c.self.invariant.2 c.swap_remove.ensures.room.0 (λ r d is e. omega arith) (λ r is. omega arith),
    )

pub returns-in_err-waiter-clause-found : goal.returns-in_err-waiter-clause-found
returns-in_err-waiter-clause-found c =
    c.from_residual.ensures ∙ c.in_err-waiter.ensures.value ∙ sym (get-entries c.args.number c.self.inside.waiters.entries) ∙ ap (held c.args.number) c.self.view_is

pub returns-in_err-waiter-clause-waiters : goal.returns-in_err-waiter-clause-waiters
returns-in_err-waiter-clause-waiters c = λ n.
    held-changed c.args.number None c.self.inside.waiters.entries c.swap_remove.new.self.entries c.swap_remove.ensures.updates.0 n
    ∙ ap (λ e. cond (n == c.args.number) None (held n e)) c.self.view_is

pub invariant_of-self-2 : goal.invariant_of-self-2
invariant_of-self-2 c =
    let inside = c.self.inside in
    let at = get nat_eq inside.waiters in
    let now = get nat_eq c.swap_remove.new.self in
    let w = c.in_ok-waiter.waiter in
    let some : at c.args.number ≡ Some w = sym c.in_ok-waiter.ensures.value in
    let priors = has-without (λ v. v.prior) at now (numbers_at inside.by_prior) (numbers_at c.remove.new.self) c.self.invariant.0 c.args.number w some c.swap_remove.ensures.updates.0 c.remove.ensures.left in
    let saids = has-without (λ v. Some v.said) at now (numbers_at inside.by_said) (numbers_at c.remove-2.new.self) c.self.invariant.1 c.args.number w some c.swap_remove.ensures.updates.0 c.remove-2.ensures.left in (
      has-same (λ v. v.prior) now now (numbers_at c.remove.new.self) (numbers_at c.let_go.new.self) priors (λ q. refl) c.let_go.ensures.same,
      has-same (λ v. Some v.said) now now (numbers_at c.remove-2.new.self) (numbers_at c.let_go-2.new.self) saids (λ q. refl) c.let_go-2.ensures.same,
      room-kept inside.room (spare inside.waiters) (spare c.swap_remove.new.self) (room_at inside.by_prior) (room_at c.let_go.new.self) (room_at inside.by_said) (room_at c.let_go-2.new.self) c.self.invariant.2 c.swap_remove.ensures.room.0
          (λ r d is e. omega (arith, c.remove.ensures.kept d, c.let_go.ensures.room d (c.prior_of.ensures r is ∙ e)))
          (λ r is. omega (arith, c.remove-2.ensures.kept r.said, c.let_go-2.ensures.room r.said (c.said_of.ensures r is))),
    )

pub returns-clause-found : goal.returns-clause-found
returns-clause-found c = c.in_ok-waiter.ensures.value ∙ sym (get-entries c.args.number c.self.inside.waiters.entries) ∙ ap (held c.args.number) c.self.view_is

pub returns-clause-waiters : goal.returns-clause-waiters
returns-clause-waiters c = λ n.
    held-changed c.args.number None c.self.inside.waiters.entries c.swap_remove.new.self.entries c.swap_remove.ensures.updates.0 n
    ∙ ap (λ e. cond (n == c.args.number) None (held n e)) c.self.view_is
