use Rattle.std.proofs.Common.{refl, ◌∙◌}
use Rattle.std.specs.Option.{option_copied}
use Rattle.std.proofs.lemmas.Result.{on_ok_weaker}
use Rattle.claim_table.specs.declared.claim_table.claimed.Claimed.{Claimed}
use Rattle.validator_core.proofs.TablesLemmas.Added.{raises_one, parts_are}
use Rattle.validator_core.proofs.tables.raised_claims.raise_claim.Goals as goal

pub returns-clause-ok : goal.returns-clause-ok
returns-clause-ok c =
    let a = c.of-added.result in
    let claimed : Claimed = record { body = c.args.number; key = c.in-Some.key; sig = c.claimed_sig.result; parts = record { index = a.index; reveal = a.reveal; backer = a.backer } } in
    on_ok_weaker c.raise.result (λ rows.
    raises_one c.args.number (option_copied c.args.state) c.args.event.now c.args.claim.now (record { claim = c.args.claim.now; key = c.in-Some.key }) claimed c.args.claims.now c.raise.new.self refl
    c.in-Some.ensures
    (record { body = refl; key = refl; sig = c.claimed_sig.ensures; parts = λ once p. parts_are claimed.parts a refl refl refl p ∙ c.of-added.ensures once _ })
    rows c.raise.ensures.pending) c.raise.ensures.ok
