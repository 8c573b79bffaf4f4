use Rattle.std.proofs.Common.{subst}
use Rattle.std.specs.Prelude.{Contains}
use Rattle.escrow.specs.EventIndex.Keys.{numbers_at}
use Rattle.validator_core.specs.Tables.Hints.{IsSealedAt, KeepsBelow}
use Rattle.validator_core.specs.Tables.Names.{name_of}
use Rattle.validator_core.specs.Tables.NamedPlaces.{places_at}
use Rattle.validator_core.proofs.TablesLemmas.AddedNumbers.{on_ok}
use Rattle.validator_core.proofs.TablesLemmas.Orders.{seal_cmp}
use Rattle.validator_core.proofs.tables.log.note_next.Goals as goal

pub returns-in_err-note_accepted-clause-kept : goal.returns-in_err-note_accepted-clause-kept
returns-in_err-note_accepted-clause-kept c = subst (λ k. KeepsBelow k (places_at c.args.accepted.now) (places_at c.note_accepted.new.accepted)) c.in_ok-place.ensures.ok c.note_accepted.ensures.kept

pub returns-in_err-note_accepted-clause-kept_sealed : goal.returns-in_err-note_accepted-clause-kept_sealed
returns-in_err-note_accepted-clause-kept_sealed c = subst (λ k. KeepsBelow k (numbers_at seal_cmp c.args.sealed.now) (numbers_at seal_cmp c.note_accepted.new.sealed)) c.in_ok-place.ensures.ok c.note_accepted.ensures.kept_sealed

pub returns-clause-named : goal.returns-clause-named
returns-clause-named c = on_ok c.length_u32-2.result (subst (Contains (places_at c.note_accepted.new.accepted (name_of c.args.event.now))) c.in_ok-place.ensures.ok c.in_ok-note_accepted.ensures.named)

pub returns-clause-sealed : goal.returns-clause-sealed
returns-clause-sealed c = on_ok c.length_u32-2.result (subst (IsSealedAt (numbers_at seal_cmp c.note_accepted.new.sealed) c.args.event.now) c.in_ok-place.ensures.ok c.in_ok-note_accepted.ensures.sealed)

pub returns-clause-kept : goal.returns-clause-kept
returns-clause-kept c = subst (λ k. KeepsBelow k (places_at c.args.accepted.now) (places_at c.note_accepted.new.accepted)) c.in_ok-place.ensures.ok c.note_accepted.ensures.kept

pub returns-clause-kept_sealed : goal.returns-clause-kept_sealed
returns-clause-kept_sealed c = subst (λ k. KeepsBelow k (numbers_at seal_cmp c.args.sealed.now) (numbers_at seal_cmp c.note_accepted.new.sealed)) c.in_ok-place.ensures.ok c.note_accepted.ensures.kept_sealed
