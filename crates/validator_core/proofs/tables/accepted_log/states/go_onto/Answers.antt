use Rattle.std.proofs.Common.{length, refl, sym}
use Rattle.std.proofs.lemmas.Option.{slice_get_read}
use Rattle.validator_core.specs.Tables.AcceptedLog.Values.{with_since}
use Rattle.validator_core.proofs.TablesLemmas.AcceptedLogLemmas.Lists.{set_at_place}
use Rattle.validator_core.proofs.TablesLemmas.AcceptedLogLemmas.Readings.{under_ok}
use Rattle.validator_core.proofs.tables.accepted_log.states.go_onto.Goals as goal

pub returns-clause-ok : goal.returns-clause-ok
returns-clause-ok c =
    let states = c.args.states.now.items in let s = c.index_mut.result.now in
    let at = slice_get_read states (length states) c.args.place s refl c.requires.there c.index_mut.ensures.value in
    under_ok c.lengthen.result c.lengthen.ensures.ok (λ is. set_at_place (with_since c.args.said) states c.args.place s _ at (sym is))

pub returns-clause-made : goal.returns-clause-made
returns-clause-made c =
    let states = c.args.states.now.items in let s = c.index_mut.result.now in
    let at = slice_get_read states (length states) c.args.place s refl c.requires.there c.index_mut.ensures.value in
    rw at c.lengthen.ensures.made
