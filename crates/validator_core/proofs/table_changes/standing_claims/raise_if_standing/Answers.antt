use Rattle.std.proofs.Common.{subst}
use Rattle.std.proofs.lemmas.Result.{on_ok_weaker}
use Rattle.validator_core.specs.Acceptance.Standing.{told_of}
use Rattle.journal.specs.Journal.History.{claims_on}
use Rattle.validator_core.specs.Tables.Raised.{Raises, state_there}
use Rattle.validator_core.proofs.TableChangesLemmas.StandingClaims.{raises_found}
use Rattle.validator_core.proofs.table_changes.standing_claims.raise_if_standing.Goals as goal

pub raise_body-requires-clause-kept : goal.raise_body-requires-clause-kept
raise_body-requires-clause-kept c = λ b at. c.spelled_is_kept.ensures b.event b.bytes (c.requires.spelled c.args.number b at).spelled

pub returns-in-Some-clause-ok : goal.returns-in-Some-clause-ok
returns-in-Some-clause-ok c = on_ok_weaker c.raise_body.result (λ raises b at.
    raises_found c.args.tables.now c.args.number b (claims_on (told_of c.args.tables.now) b) c.in-Some.on c.raise_body.new.self (c.in-Some.ensures.some b at)
    (subst (λ p. Raises c.args.number (state_there p c.args.tables.now.log.states) b.event (claims_on (told_of c.args.tables.now) b) c.args.tables.now c.raise_body.new.self) c.place_of.ensures (raises b at))) c.raise_body.ensures.ok
