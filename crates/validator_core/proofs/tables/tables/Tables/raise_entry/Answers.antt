use Rattle.std.proofs.Common.{◌≡◌, ◌∙◌, ℕ, ap}
use Rattle.std.specs.Option.{option_copied, option_map}
use Rattle.std.specs.Prelude.{slice_get}
use Rattle.std.proofs.lemmas.Result.{on_err_weaker, on_ok_weaker}
use Rattle.validator_core.specs.Tables.EntryClaims.{came_to}
use Rattle.validator_core.specs.Tables.RaisedRows.{RaisesSomeRows}
use Rattle.validator_core.proofs.TablesLemmas.Places.{got}
use Rattle.validator_core.specs.Tables.Inside.{held_in, view_of}
use Rattle.validator_core.proofs.TablesLemmas.Pairs.{event_at}
use Rattle.validator_core.proofs.TablesLemmas.Raised.{event_held, kept_event, pending_stays, raised_entry, some_raised, some_view}
use Rattle.validator_core.proofs.tables.tables.Tables.raise_entry.Goals as goal

same : (c : goal.After-state_at) → (m : ℕ) → slice_get c.as_slice.result.now m ≡ option_map (λ b. b.event) (slice_get (held_in c.self.inside) m)
same c m = ap (λ es. slice_get es m) c.as_slice.ensures.value ∙ event_at c.self.inside.journal.bodies c.self.inside.events.items c.self.invariant.0 m

pub raise_claims_by-requires-clause-held : goal.raise_claims_by-requires-clause-held
raise_claims_by-requires-clause-held c = event_held (view_of c.self.inside) c.args.self.now c.self.view_is c.as_slice.result.now (same c) c.args.number c.requires.held

pub raise_claims_by-requires-clause-kept : goal.raise_claims_by-requires-clause-kept
raise_claims_by-requires-clause-kept c = kept_event (view_of c.self.inside) c.args.self.now c.self.view_is c.as_slice.result.now (same c) c.args.number c.requires.kept

-- some claims are raised in any case
some : (c : goal.After-raise_claims_by) → RaisesSomeRows c.args.number c.self.inside.claims c.raise_claims_by.new.claims
some c = some_raised c.raise_claims_by.result c.as_slice.result.now c.args.number (option_copied c.state_at.result) (came_to c.as_slice.result.now c.args.number (option_copied c.get.result))
    c.self.inside.claims c.raise_claims_by.new.claims (raise_claims_by-requires-clause-held c.before) c.raise_claims_by.ensures.ok c.raise_claims_by.ensures.err

pub invariant_of-self : goal.invariant_of-self
invariant_of-self c = (c.self.invariant.0, pending_stays c.args.number c.self.inside.claims c.raise_claims_by.new.claims (some c) c.self.invariant.1, c.self.invariant.2)

pub returns-clause-ok : goal.returns-clause-ok
returns-clause-ok c = on_ok_weaker c.raise_claims_by.result
    (raised_entry (view_of c.self.inside) c.args.self.now c.self.view_is c.as_slice.result.now (same c.before) c.args.number c.requires.differ
    (option_copied c.state_at.result) c.args.state (option_copied c.get.result) c.args.entry c.raise_claims_by.new.claims c.state_at.ensures
    (got c.as_slice-2.result.now c.args.entry c.get.result c.get.ensures.lookup ∙ ap (λ es. slice_get es c.args.entry) c.as_slice-2.ensures))
    c.raise_claims_by.ensures.ok

pub returns-clause-err : goal.returns-clause-err
returns-clause-err c = on_err_weaker c.raise_claims_by.result (some_view c.args.number (view_of c.self.inside) c.args.self.now c.raise_claims_by.new.claims c.self.view_is) c.raise_claims_by.ensures.err
