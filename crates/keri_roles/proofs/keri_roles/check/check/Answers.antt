use Rattle.std.proofs.Common.{◌≡◌, refl, [], ◌∷◌, rules, is_none, option_map, string_bytes}
use Rattle.run_status.specs.RunOutside.Shown.{making}
use Rattle.run_status.specs.declared.run_outside.making.MakingKind.TheVariants.{Source}
use Rattle.keri_roles.specs.KeriRoles.Check.{ChecksReader}
use Rattle.run_status.specs.RunStatus.Readers.{reader_seen, source_seen}
use Rattle.run_status.specs.RunOutside.Makings.{AreMakings}
use Rattle.keri_roles.proofs.CoreRolesLemmas.CoreTold.{owes_it, seen_none}
use Rattle.keri_roles.proofs.keri_roles.check.check.Goals as goal

pub returns-clause-checked : goal.returns-clause-checked
returns-clause-checked g c =
    let before = g.O.Outside.shown c.args.outside.now in
    let end = c.check_file-reader.result.0 in
    let reader = reader_seen g.O.Source.Source.left g.O.Source.Source.faults g.O.Verifier.Verifier.says g.O.Verifier.Verifier.inquiries g.O.Verifier.Verifier.faults end in
    let one : c.push.new.self.items ≡ end ∷ [] = search rules in
    let makes : AreMakings (making Source c.args.name.now (is_none reader.source) ∷ []) before (g.O.Outside.shown c.check_file-reader.new.outside) = rw
    (seen_none (source_seen g.O.Source.Source.left g.O.Source.Source.faults g.O.Verifier.Verifier.says g.O.Verifier.Verifier.inquiries g.O.Verifier.Verifier.faults) end.source)
    c.check_file-reader.ensures.makes in
    rw one (record {
      reader = reader;
      one = refl;
      makes = makes;
      no_verifier = rw c.check_file-reader.ensures.no_verifier refl;
      none_seen = c.check_file-reader.ensures.none_seen;
      owes = owes_it (ChecksReader before.limits (before.holds c.args.name.now) reader) (option_map (λ text. text.items) c.owe-owed.result) end.close
          (string_bytes c.check_file-reader.result.1) c.owe-owed.ensures c.check_file-reader.ensures.checks;
      none_told = c.nothing_told.ensures;
      nothing_else = c.nothing.ensures;
    })
