use Rattle.std.proofs.Common.{take, subst, sym}
use Rattle.std.specs.Option.{option_copied}
use Rattle.std.proofs.lemmas.List.{take_all}
use Rattle.validator_core.specs.Tables.RaisedRows.{RaisesRows, RaisesSomeRows}
use Rattle.validator_core.proofs.TablesLemmas.Added.{on_err, raises_nothing, raises_next, some_of}
use Rattle.validator_core.proofs.tables.raised_claims.raise_claims.Goals as goal

pub loop-claim-init : goal.loop-claim-init
loop-claim-init c = raises_nothing c.args.number (option_copied c.args.state) c.args.event.now c.args.claims.now

pub loop-claim-preserved : goal.loop-claim-preserved
loop-claim-preserved c =
    raises_next c.args.number (option_copied c.args.state) c.args.event.now c.args.came.now c.loop-claim.claim-index c.claim-item.result c.args.claims.now c.loop-claim.claims c.raise_claim.new.claims
    c.claim-item.is c.loop-claim-test.true c.loop-claim.invariant c.in_ok-raise_claim.ensures.ok

pub returns-in_err-raise_claim-clause-err : goal.returns-in_err-raise_claim-clause-err
returns-in_err-raise_claim-clause-err c = on_err c.from_residual.result
    (subst (λ t. RaisesSomeRows c.args.number c.args.claims.now t) (sym c.in_err-raise_claim.ensures.err)
    (some_of c.args.number (option_copied c.args.state) c.args.event.now (take c.loop-claim.claim-index c.args.came.now) c.args.claims.now c.loop-claim.claims c.loop-claim.invariant))

pub returns-clause-ok : goal.returns-clause-ok
returns-clause-ok c = subst (λ xs. RaisesRows c.args.number (option_copied c.args.state) c.args.event.now xs c.args.claims.now c.loop-claim.claims) (take_all c.loop-claim.claim-index c.args.came.now c.loop-claim-test.false) c.loop-claim.invariant
