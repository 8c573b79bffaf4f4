use Rattle.std.proofs.Common.{◌≡◌, refl, [], ◌∷◌, rules, is_none}
use Rattle.run_status.specs.RunOutside.Shown.{making}
use Rattle.run_status.specs.declared.run_outside.making.MakingKind.TheVariants.{Source, Signer}
use Rattle.run_status.specs.RunStatus.Readers.{reader_seen, source_seen}
use Rattle.run_status.specs.RunOutside.Makings.{AreMakings}
use Rattle.run_status.specs.RunRecord.Seen.{signer_seen}
use Rattle.keri_roles.proofs.CoreRolesLemmas.CoreTold.{seen_none}
use Rattle.keri_roles.proofs.KeriRolesLemmas.Made.{gives_seen, signer_none}
use Rattle.keri_roles.proofs.keri_roles.make.made_alone.Goals as goal

pub returns-clause-made : goal.returns-clause-made
returns-clause-made g c =
    let before = g.O.Outside.shown c.args.outside.now in
    let after = g.O.Outside.shown c.make_alone-plan.new.outside in
    let end = c.read_whole-reader.result.reader in
    let signer = c.message_due-owed.new.signer in
    let gives = g.O.Signer.Signer.gives in
    let signings = g.O.Signer.Signer.signings in
    let faults = g.O.Signer.Signer.faults in
    let reader = reader_seen g.O.Source.Source.left g.O.Source.Source.faults g.O.Verifier.Verifier.says g.O.Verifier.Verifier.inquiries g.O.Verifier.Verifier.faults end in
    let one : c.push.new.self.items ≡ end ∷ [] = search rules in
    let makes : AreMakings (making Source c.args.plan.now (is_none reader.source) ∷ making Signer c.args.helper.now (is_none (signer_seen gives signings faults signer)) ∷ []) before after = rw (
      seen_none (source_seen g.O.Source.Source.left g.O.Source.Source.faults g.O.Verifier.Verifier.says g.O.Verifier.Verifier.inquiries g.O.Verifier.Verifier.faults) end.source,
      c.read_whole-reader.ensures.source,
      signer_none gives signings faults signer,
      c.message_due-owed.ensures.signer,
    ) c.make_alone-plan.ensures.makes in
    rw one (record {
      reader = reader;
      one = refl;
      text = c.read_whole-reader.result.text.items;
      reads = rw c.limits-limits.ensures at (c.read_whole-reader.ensures.reads (before.holds c.args.plan.now) c.make_alone-plan.ensures.holds);
      makes = makes;
      signs = gives_seen gives signings faults signer (before.gives c.args.helper.now) (c.message_due-owed.ensures.gives (before.gives c.args.helper.now) c.make_alone-plan.ensures.signs);
      none_told = c.nothing_told.ensures;
      owes = rw c.deref.ensures.value at (c.message_due-owed.ensures.due (before.gives c.args.helper.now) c.make_alone-plan.ensures.signs);
    })
