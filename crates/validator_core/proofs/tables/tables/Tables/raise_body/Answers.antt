use Rattle.std.proofs.Common.{◌≡◌, ◌∙◌, ℕ, ap, arith, length, refl}
use Rattle.std.specs.Option.{option_copied, option_map}
use Rattle.std.specs.Prelude.{flat_map, slice_get}
use Rattle.std.proofs.lemmas.Option.{slice_get_read}
use Rattle.std.proofs.lemmas.Result.{on_err_weaker, on_ok_weaker}
use Rattle.validator_core.specs.Tables.EntryClaims.{came_to}
use Rattle.validator_core.specs.Tables.RaisedRows.{RaisesSomeRows}
use Rattle.escrow.specs.EventIndex.Keys.{numbers_at}
use Rattle.validator_core.specs.Tables.Inside.{held_in, view_of}
use Rattle.validator_core.proofs.TablesLemmas.Orders.{name_cmp}
use Rattle.validator_core.proofs.TablesLemmas.Pairs.{event_at}
use Rattle.validator_core.proofs.TablesLemmas.Raised.{event_held, kept_event, pending_stays, raised_body, some_raised, some_view}
use Rattle.validator_core.proofs.tables.tables.Tables.raise_body.Goals as goal

pub index-requires : goal.index-requires
index-requires c =
    let t = c.self.inside in
    let low = event_held (view_of t) c.args.self.now c.self.view_is t.events.items (event_at t.journal.bodies t.events.items c.self.invariant.0) c.args.number c.requires.held in
    let ok = t.events.ok.0 in
    omega (arith, low, ok)

same : (c : goal.After-state_at) → (m : ℕ) → slice_get c.as_slice.result.now m ≡ option_map (λ b. b.event) (slice_get (held_in c.self.inside) m)
same c m = ap (λ es. slice_get es m) c.as_slice.ensures.value ∙ event_at c.self.inside.journal.bodies c.self.inside.events.items c.self.invariant.0 m

pub raise_entries-requires-clause-held : goal.raise_entries-requires-clause-held
raise_entries-requires-clause-held c = event_held (view_of c.self.inside) c.args.self.now c.self.view_is c.as_slice.result.now (same c) c.args.number c.requires.held

pub raise_entries-requires-clause-kept : goal.raise_entries-requires-clause-kept
raise_entries-requires-clause-kept c = kept_event (view_of c.self.inside) c.args.self.now c.self.view_is c.as_slice.result.now (same c) c.args.number c.requires.kept

-- some claims are raised in any case
some : (c : goal.After-raise_entries) → RaisesSomeRows c.args.number c.self.inside.claims c.raise_entries.new.claims
some c = some_raised c.raise_entries.result c.as_slice.result.now c.args.number (option_copied c.state_at.result) (flat_map (λ i. came_to c.as_slice.result.now c.args.number (slice_get c.as_slice-2.result.now i)) c.numbers.result.now)
    c.self.inside.claims c.raise_entries.new.claims (raise_entries-requires-clause-held c.before) c.raise_entries.ensures.ok c.raise_entries.ensures.err

pub invariant_of-self : goal.invariant_of-self
invariant_of-self c = (c.self.invariant.0, pending_stays c.args.number c.self.inside.claims c.raise_entries.new.claims (some c) c.self.invariant.1, c.self.invariant.2)

pub returns-clause-ok : goal.returns-clause-ok
returns-clause-ok c =
    let t = c.self.inside in
    let there = ap (λ es. slice_get es c.args.number) c.as_slice.ensures.value ∙ slice_get_read t.events.items (length t.events.items) c.args.number c.index.result.now refl (event_held (view_of t) c.args.self.now c.self.view_is t.events.items (event_at t.journal.bodies t.events.items c.self.invariant.0) c.args.number c.requires.held) c.index.ensures in
    on_ok_weaker c.raise_entries.result
    (raised_body (view_of t) c.args.self.now c.self.view_is c.as_slice.result.now (same c.before) c.args.number c.requires.differ
    (option_copied c.state_at.result) c.args.state c.as_slice-2.result.now c.numbers.result.now (numbers_at name_cmp t.told) c.name_of-name.result c.index.result.now c.raise_entries.new.claims
    c.state_at.ensures c.as_slice-2.ensures c.self.invariant.2.told c.numbers.ensures.those c.numbers.ensures.rising c.name_of-name.ensures there)
    c.raise_entries.ensures.ok

pub returns-clause-err : goal.returns-clause-err
returns-clause-err c = on_err_weaker c.raise_entries.result (some_view c.args.number (view_of c.self.inside) c.args.self.now c.raise_entries.new.claims c.self.view_is) c.raise_entries.ensures.err
