use Rattle.std.proofs.Common.{◌≡◌, ◌<◌, ℕ, cond, sym, ap, subst, ◌∙◌, nat_eq, Some, None}
use Rattle.std.specs.Prelude.{◌==◌}
use Rattle.indexmap.specs.IndexMap.{get}
use Rattle.escrow.specs.Escrow.Escrow.{held, room_for}
use Rattle.escrow.specs.Escrow.Tables.{numbers_at, room_at}
use Rattle.escrow.proofs.EscrowLemmas.Held.{get-entries, held-changed, some_of}
use Rattle.escrow.proofs.EscrowLemmas.Tables.{has-with}
use Rattle.escrow.proofs.escrow.waiting.Waiting.put.Goals as goal

pub insert-requires-clause-room : goal.insert-requires-clause-room
insert-requires-clause-room c = (c.self.invariant.2 (room_for c.args.waiter) (ap (λ e. e.room) c.self.view_is ∙ c.requires.room)).1

pub insert-requires-2-clause-room : goal.insert-requires-2-clause-room
insert-requires-2-clause-room c = λ d e.
    subst (λ q. 0 < room_at c.self.inside.by_said q) (some_of _ _ e) (c.self.invariant.2 (room_for c.args.waiter) (ap (λ e. e.room) c.self.view_is ∙ c.requires.room)).2

pub insert-requires-clause-new : goal.insert-requires-clause-new
insert-requires-clause-new c = λ d e h.
    let w = (c.self.invariant.0 d c.args.waiter.number).0 h in
    let none = sym (get-entries c.args.waiter.number c.self.inside.waiters.entries) ∙ ap (held c.args.waiter.number) c.self.view_is ∙ c.requires.new in
    cc (none, w.1)

pub insert-requires-2-clause-new : goal.insert-requires-2-clause-new
insert-requires-2-clause-new c = λ d e h.
    let w = (c.self.invariant.1 d c.args.waiter.number).0 h in
    let none = sym (get-entries c.args.waiter.number c.self.inside.waiters.entries) ∙ ap (held c.args.waiter.number) c.self.view_is ∙ c.requires.new in
    cc (none, w.1)

pub unwrap-requires : goal.unwrap-requires
unwrap-requires c = c.insert-3.ensures.succeeds (c.self.invariant.2 (room_for c.args.waiter) (ap (λ e. e.room) c.self.view_is ∙ c.requires.room)).0

pub invariant_of-self : goal.invariant_of-self
invariant_of-self c =
    let w = c.args.waiter in
    let at = get nat_eq c.self.inside.waiters in
    let now = get nat_eq c.insert-3.new.self in
    let none : at w.number ≡ None = sym (get-entries w.number c.self.inside.waiters.entries) ∙ ap (held w.number) c.self.view_is ∙ c.requires.new in
    let changed : (q : ℕ) → now q ≡ cond (nat_eq w.number q) (Some w) (at q) = (rw c.unwrap.ensures at c.insert-3.ensures.updates).0 in (
      has-with (λ v. v.prior) at now (numbers_at c.self.inside.by_prior) (numbers_at c.insert.new.self) c.self.invariant.0 w.number w none changed c.insert.ensures,
      has-with (λ v. Some v.said) at now (numbers_at c.self.inside.by_said) (numbers_at c.insert-2.new.self) c.self.invariant.1 w.number w none changed c.insert-2.ensures,
      λ r e. let no : ⊥ = cc e in absurd no,
    )

pub returns-clause-waiters : goal.returns-clause-waiters
returns-clause-waiters c = λ n.
    let w = c.args.waiter in
    held-changed w.number (Some w) c.self.inside.waiters.entries c.insert-3.new.self.entries (rw c.unwrap.ensures at c.insert-3.ensures.updates).0 n
    ∙ ap (λ e. cond (n == w.number) (Some w) (held n e)) c.self.view_is
