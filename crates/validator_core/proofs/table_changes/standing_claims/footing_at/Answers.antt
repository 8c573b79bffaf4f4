use Rattle.std.specs.Prelude.{slice_get}
use Rattle.validator_core.specs.Acceptance.Footing.{IsFooting}
use Rattle.validator_core.specs.Tables.View.{log_of}
use Rattle.validator_core.proofs.TableChangesLemmas.StandingClaims.{of_body}
use Rattle.validator_core.proofs.table_changes.standing_claims.footing_at.Goals as goal

pub returns-clause-some : goal.returns-clause-some
returns-clause-some c = of_body (λ b on. IsFooting (log_of c.args.tables.now) c.args.tables.now.log b on) c.in_ok-event.event.now (slice_get c.args.tables.now.held c.args.number) c.in_ok-event.ensures
    c.footing_of.result c.footing_of.ensures.some
