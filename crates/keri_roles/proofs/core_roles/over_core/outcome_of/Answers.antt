use Rattle.std.proofs.Common.{refl, map}
use Rattle.run_status.specs.RunStatus.Readers.{reader_seen}
use Rattle.keri_roles.specs.CoreRoles.CoreTold.{HadMemory, plain}
use Rattle.keri_roles.proofs.CoreRolesLemmas.OverCore.{owes_so}
use Rattle.keri_roles.proofs.core_roles.over_core.outcome_of.Goals as goal

pub returns-clause-owes : goal.returns-clause-owes
returns-clause-owes g c =
    let core = c.args.ran.core in
    let rest = c.args.ran.rest in
    let readers = map (reader_seen g.S.Source.left g.S.Source.faults g.V.Verifier.says g.V.Verifier.inquiries g.V.Verifier.faults) c.args.ran.readers.items in
    record {
      is_found = c.owe-owed.result.1;
      owes = owes_so (λ t. t.bytes) (λ t. t.is_found) (λ text has. HadMemory rest readers × g.T.CoreText.is_text c.args.text.now (plain core) readers text has)
          c.text_of-text.result c.owe-owed.result.0 c.owe-owed.result.1 (rw c.as_slice.ensures.value at c.text_of-text.ensures)
          c.owe-owed.ensures.ok c.owe-owed.ensures.err;
      nothing_else = rw (c.finds.ensures, c.verifier_failed_last.ensures) refl;
    }
