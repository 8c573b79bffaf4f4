use Rattle.std.proofs.Common.{◌≡◌, ℕ, List, ap, get_or, subst, sym, take, ◌∙◌, ◌++◌}
use Rattle.std.specs.Prelude.{flat_map, slice_get}
use Rattle.std.specs.Option.{option_copied}
use Rattle.std.proofs.lemmas.List.{take_all}
use Rattle.journal.proofs.JournalLemmas.Places.{some_at}
use Rattle.validator_core.specs.Tables.EntryClaims.{came_to}
use Rattle.validator_core.specs.Tables.RaisedRows.{RaisesRows}
use Rattle.validator_core.proofs.TablesLemmas.Added.{on_err, raises_nothing, raises_more, some_of, some_more}
use Rattle.validator_core.proofs.TablesLemmas.Places.{gathered_next, got}
use Rattle.validator_core.proofs.tables.entry_claims.raise_entries.Goals as goal

pub loop-entry-init : goal.loop-entry-init
loop-entry-init c = λ e at. raises_nothing c.args.number (option_copied c.args.state) e c.args.claims.now

pub loop-entry-preserved : goal.loop-entry-preserved
loop-entry-preserved c = λ e at.
    let f = λ (i : ℕ). came_to c.args.events.now c.args.number (slice_get c.args.entries.now i) in
    let entry = get_or c.args.numbers.now c.loop-entry.entry-index 0 in
    let there : option_copied c.get-came.result ≡ slice_get c.args.entries.now entry = got c.args.entries.now entry c.get-came.result c.get-came.ensures.lookup in
    subst (λ xs. RaisesRows c.args.number (option_copied c.args.state) e xs c.args.claims.now c.raise_claims_by.new.claims)
    (ap (λ o. flat_map f (take c.loop-entry.entry-index c.args.numbers.now) ++ came_to c.args.events.now c.args.number o) there ∙ sym (gathered_next f c.args.numbers.now c.loop-entry.entry-index 0 c.loop-entry-test.true))
    (raises_more c.args.number (option_copied c.args.state) e (flat_map f (take c.loop-entry.entry-index c.args.numbers.now)) (came_to c.args.events.now c.args.number (option_copied c.get-came.result))
    c.args.claims.now c.loop-entry.claims c.raise_claims_by.new.claims (c.loop-entry.invariant e at) (c.in_ok-raise_claims_by.ensures.ok e at))

pub returns-in_err-raise_claims_by-clause-err : goal.returns-in_err-raise_claims_by-clause-err
returns-in_err-raise_claims_by-clause-err c =
    let e = some_at c.args.events.now c.args.number c.requires.held in
    let f = λ (i : ℕ). came_to c.args.events.now c.args.number (slice_get c.args.entries.now i) in
    on_err c.from_residual.result
    (some_more c.args.number c.args.claims.now c.loop-entry.claims c.raise_claims_by.new.claims
    (some_of c.args.number (option_copied c.args.state) e.0 (flat_map f (take c.loop-entry.entry-index c.args.numbers.now)) c.args.claims.now c.loop-entry.claims (c.loop-entry.invariant e.0 e.1))
    c.in_err-raise_claims_by.ensures.err)

pub returns-clause-ok : goal.returns-clause-ok
returns-clause-ok c = λ e at.
    let f = λ (i : ℕ). came_to c.args.events.now c.args.number (slice_get c.args.entries.now i) in
    subst (λ (xs : List ℕ). RaisesRows c.args.number (option_copied c.args.state) e (flat_map f xs) c.args.claims.now c.loop-entry.claims)
    (take_all c.loop-entry.entry-index c.args.numbers.now c.loop-entry-test.false) (c.loop-entry.invariant e at)
