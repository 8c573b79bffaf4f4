use Rattle.std.proofs.Common.{length, refl, subst}
use Rattle.std.specs.Option.{option_copied}
use Rattle.std.proofs.lemmas.Option.{slice_get_read}
use Rattle.std.proofs.lemmas.Result.{on_ok_weaker}
use Rattle.event_body.specs.declared.event_body.event.Event.{Event}
use Rattle.validator_core.specs.Tables.RaisedRows.{RaisesRows}
use Rattle.validator_core.proofs.TablesLemmas.Places.{one_there}
use Rattle.validator_core.proofs.tables.entry_claims.raise_claims_by.Goals as goal

pub raise_claims-requires : goal.raise_claims-requires
raise_claims-requires c = record {
  kept = c.requires.kept c.index-events-number.result (slice_get_read c.args.events.now (length c.args.events.now) c.args.number c.index-events-number.result refl c.requires.held c.index-events-number.is);
}

pub returns-clause-ok : goal.returns-clause-ok
returns-clause-ok c = on_ok_weaker c.raise_claims.result
    (λ h e at. subst (λ xs. RaisesRows c.args.number (option_copied c.args.state) e xs c.args.claims.now c.raise_claims.new.claims) c.claims_by-came.ensures
    (subst (λ (x : Event). RaisesRows c.args.number (option_copied c.args.state) x c.claims_by-came.result.now c.args.claims.now c.raise_claims.new.claims)
    (one_there c.args.events.now c.args.number c.index-events-number.result e c.index-events-number.is at) h)) c.raise_claims.ensures.ok
