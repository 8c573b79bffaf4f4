use Rattle.std.proofs.Common.{◌∙◌, ◌||◌, ap, sym}
use Rattle.std.specs.Prelude.{slice_get}
use Rattle.std.proofs.lemmas.Bool.{ne_eqb}
use Rattle.validator_core.specs.Tables.EntryClaims.{is_receipt_of}
use Rattle.validator_core.proofs.TablesLemmas.Places.{got}
use Rattle.validator_core.proofs.tables.entry_claims.bears_on.Goals as goal

pub returns-else-came-number : goal.returns-else-came-number
returns-else-came-number c =
    let events = c.args.events.now in
    let came = got events c.args.came c.get.result c.get.ensures.lookup in
    let own = got events c.args.number c.get-else-came-number.result c.get-else-came-number.ensures.lookup in
    c.is_receipt_of.ensures ∙ (λ i. is_receipt_of (came i) (own i))
    ∙ sym (ap (λ t. t || is_receipt_of (slice_get events c.args.came) (slice_get events c.args.number)) (ne_eqb c.args.came c.args.number c.if-came-number.false))
