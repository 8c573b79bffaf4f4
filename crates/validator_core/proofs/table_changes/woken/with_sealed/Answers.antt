use Rattle.std.proofs.Common.{sym, ◌∙◌, ap, subst}
use Rattle.event_backing.specs.EventSeals.{names}
use Rattle.event_backing.specs.Listing.{AreSealsOf}
use Rattle.event_backing.proofs.Held.{listed-held}
use Rattle.event_body.specs.EventBody.Events.{anchors_of}
use Rattle.journal.proofs.JournalLemmas.Places.{found_at}
use Rattle.validator_core.specs.Tables.Names.{name_in}
use Rattle.validator_core.proofs.TablesLemmas.NamedRows.{same_name_is}
use Rattle.validator_core.proofs.TablesLemmas.Rows.{contained}
use Rattle.validator_core.proofs.table_changes.woken.with_sealed.Goals as goal

pub returns-clause-sealed : goal.returns-clause-sealed
returns-clause-sealed c = λ n seal good holds waits.
    let e = c.args.event.now in let listed = c.as_slice.result.now in
    let all = subst (λ seals. AreSealsOf (anchors_of e) seals) (sym c.as_slice.ensures.value) c.in_ok-seals.ensures in
    let found = found_at (names seal.prefix seal.sn seal.said) listed (sym (listed-held e listed seal all good) ∙ holds) in
    let one = same_name_is (name_in found.1) (name_in seal) found.3 in
    c.in_ok-push_named.ensures.named n found.1 (contained listed found.0 found.1 found.2) (waits.0, waits.1, waits.2 ∙ sym (ap (λ m. m.said) one))
