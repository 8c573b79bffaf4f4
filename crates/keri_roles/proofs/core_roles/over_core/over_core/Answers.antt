use Rattle.std.proofs.Common.{◌≡◌, [], false, ◌∙◌, ap, arith, map}
use Rattle.run_status.specs.RunStatus.Readers.{reader_seen}
use Rattle.validator_core.specs.ValidatorCore.View.{told_of}
use Rattle.reader_hub.specs.ReaderThreads.Given.{given_by}
use Rattle.reader_hub.specs.ReaderThreads.Told.{AllTold}
use Rattle.keri_roles.proofs.CoreRolesLemmas.CompleteOver.{over_files}
use Rattle.keri_roles.proofs.CoreRolesLemmas.CoreTold.{is_told_by, owes_plain, same_journal, untold}
use Rattle.keri_roles.proofs.core_roles.over_core.over_core.Goals as goal

pub new-requires-clause-untold : goal.new-requires-clause-untold
new-requires-clause-untold g c =
    let none : told_of c.new-core.result ≡ [] = untold c.new-core.result (ap (λ core. core.entries) c.new-core.ensures) in
    search (none)

pub outcome_of-requires : goal.outcome_of-requires
outcome_of-requires g c =
    let all = c.read-ran.ensures.count in
    let made = c.providers_for-providers.ensures.count in
    let has = c.in_ok-seats.ensures in
    let mode : c.new-core.result.mode ≡ c.args.mode = ap (λ x. x.mode) c.new-core.ensures in
    let told = c.read-ran.ensures.told in
    record {
      mode = told.mode_is ∙ (has.mode_is ∙ (mode ∙ c.requires.mode));
      whole = told.no_base;
      few = omega (arith, all, made, c.requires.few);
    }

pub returns-clause-done : goal.returns-clause-done
returns-clause-done g c =
    let before = g.O.Outside.shown c.args.outside.now in
    let core = c.read-ran.result.core in
    let rest = c.read-ran.result.rest in
    let has = c.in_ok-seats.ensures in
    let readers = map (reader_seen g.O.Source.Source.left g.O.Source.Source.faults g.O.Verifier.Verifier.says g.O.Verifier.Verifier.inquiries g.O.Verifier.Verifier.faults) c.read-ran.result.readers.items in
    let given = map (given_by g.O.Source.Source.left g.O.Source.Source.faults g.O.Verifier.Verifier.says g.O.Verifier.Verifier.inquiries g.O.Verifier.Verifier.faults) c.providers_for-providers.result.items in
    let mode : c.new-core.result.mode ≡ c.args.mode = ap (λ x. x.mode) c.new-core.ensures in
    let told : AllTold c.args.mode before.limits given readers rest core = rw (has.mode_is, mode, has.limits_are, c.limits-limits.ensures) at c.read-ran.ensures.told in
    rw (c.outcome_of.ensures.readers, same_journal core c.outcome_of.result.journal c.outcome_of.ensures.journal) (over_files c.args.mode _ _ false _ _ _ (record {
      given = given;
      provided = c.providers_for-providers.ensures.provided;
      rest = rest;
      journal = is_told_by c.args.mode before.limits given readers rest core told;
    }) (owes_plain _ _ _ c.args.mode before.limits core _ rest _ _ told.mode_is told.limits_are told.no_base c.outcome_of.ensures.owes))
