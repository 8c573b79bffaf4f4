use Rattle.std.proofs.Common.{◌≡◌, true, length, refl, sym, ◌∙◌}
use Rattle.std.specs.Prelude.{slice_get}
use Rattle.std.proofs.lemmas.Option.{slice_get_read}
use Rattle.validator_core.specs.Tables.AcceptedLog.Values.{has_more, without_last}
use Rattle.validator_core.proofs.TablesLemmas.AcceptedLogLemmas.Lists.{set_at_place}
use Rattle.validator_core.proofs.TablesLemmas.AcceptedLogLemmas.Readings.{more_there}
use Rattle.validator_core.proofs.tables.accepted_log.states.undo.Goals as goal

pub returns-then-has_more : goal.returns-then-has_more
returns-then-has_more c =
    let states = c.args.states.now.items in let s = c.index_mut.result.now in
    let seen = c.has_more.ensures in
    let more : has_more (slice_get states c.args.place) ≡ true = sym (rw c.as_slice.ensures.value at seen) ∙ c.if-has_more.true in
    let at = slice_get_read states (length states) c.args.place s refl (more_there states c.args.place more).within c.index_mut.ensures.value in
    rw more (set_at_place without_last states c.args.place s _ at (sym c.shorten.ensures))
