use Rattle.std.proofs.Common.{◌≡◌, Some, subst}
use Rattle.claim_table.specs.ClaimTable.Rows.{heard, unheard}
use Rattle.validator_core.specs.Tables.View.{with_claims}
use Rattle.validator_core.proofs.TableChangesLemmas.VerdictEntry.{hears}
use Rattle.validator_core.proofs.table_changes.verdict_entry.enter_verdict.Goals as goal

pub returns-clause-ok : goal.returns-clause-ok
returns-clause-ok c = hears c.args.tables.now c.hear.new.self c.args.question.now c.args.yes
    (subst (λ s. c.hear.new.self ≡ with_claims (record { rows = heard s c.args.yes c.args.tables.now.claims.rows; pending = Some s }) c.args.tables.now) c.signature_of.ensures c.hear.ensures.heard)
    (subst (λ s. unheard s c.hear.new.self.claims.rows ≡ c.args.tables.now.claims.rows) c.signature_of.ensures c.hear.ensures.back)
    c.args.reader c.push_heard.new.self c.requires.sound c.requires.held c.requires.raised c.requires.open_still c.in_default.ensures.ok
