use Rattle.std.proofs.Common.{◌≡◌, Some, None, sym, ◌∙◌, subst}
use Rattle.std.specs.Prelude.{slice_get}
use Rattle.std.proofs.lemmas.Result.{on_ok_weaker}
use Rattle.validator_core.specs.Tables.Raised.{Raises, claims_at, state_there}
use Rattle.journal.proofs.JournalLemmas.Places.{some_at}
use Rattle.validator_core.proofs.TableChangesLemmas.StandingClaims.{raises_found}
use Rattle.validator_core.proofs.table_changes.standing_claims.raise_entry_if_standing.Goals as goal

pub raise_entry-requires-clause-kept : goal.raise_entry-requires-clause-kept
raise_entry-requires-clause-kept c = λ b at. c.spelled_is_kept.ensures b.event b.bytes (c.requires.spelled c.args.number b at).spelled

pub returns-in-Some-clause-ok : goal.returns-in-Some-clause-ok
returns-in-Some-clause-ok c = on_ok_weaker c.raise_entry.result (λ raises b at.
    raises_found c.args.tables.now c.args.number b (claims_at c.args.tables.now.held b (slice_get c.args.tables.now.entries c.args.entry)) c.in-Some.on c.raise_entry.new.self (c.in-Some.ensures.some b at)
    (subst (λ p. Raises c.args.number (state_there p c.args.tables.now.log.states) b.event (claims_at c.args.tables.now.held b (slice_get c.args.tables.now.entries c.args.entry)) c.args.tables.now c.raise_entry.new.self) c.place_of.ensures (raises b at))) c.raise_entry.ensures.ok

pub returns-in-Some-clause-unheld : goal.returns-in-Some-clause-unheld
returns-in-Some-clause-unheld c = on_ok_weaker c.raise_entry.result (λ raises none.
    (let there = some_at c.args.tables.now.held c.args.number c.in-Some.ensures.held in let no : None ≡ Some there.0 = sym none ∙ there.1 in cc)) c.raise_entry.ensures.ok
