use Rattle.std.proofs.Common.{ap, subst}
use Rattle.witness_core.specs.WitnessCore.Faults.{Goes}
use Rattle.witness_core.proofs.WitnessLinkLemmas.Holding.{all_kept}
use Rattle.witness_core.proofs.WitnessLinkLemmas.Lawful.{lawful_list, still_grown}
use Rattle.witness_core.proofs.WitnessLinkLemmas.Restart.{starts_again}
use Rattle.witness_core.proofs.WitnessLinkLemmas.Witnessed.{taken_so}
use Rattle.witness_core.proofs.witness_link.witnessing.ServiceWitnessing.take.Goals as goal

pub returns-clause-takes : goal.returns-clause-takes
returns-clause-takes g c = λ whole.
    let e = c.take-taken.ensures in
    let old = c.args.self.now.witness in
    let new = c.take-taken.new.self in
    taken_so (record { key = old.key; limits = old.limits; core = old.core; list = old.shelf.list; disk = g.D.Disk.shown old.shelf.disk; broken = old.broken })
    (record { key = new.key; limits = new.limits; core = new.core; list = new.shelf.list; disk = g.D.Disk.shown new.shelf.disk; broken = new.broken }) (g.V.Verifier.says c.args.self.now.verifier) (g.G.Signer.gives c.args.self.now.signer) c.args.message.now _ _ _ _ c.take-taken.result
    (subst (λ b. Goes b c.take-taken.new.self.broken c.take-taken.result) whole e.goes) (e.full whole) (λ is. (ap (λ s. s.list) (e.same_at_full is).0, (e.same_at_full is).2)) (e.told whole)
    e.fate e.receipts e.same_list
    (λ is. record {
      whole = is;
      listed = e.stored is;
      read = e.read is;
      starts = starts_again new.core new.shelf.list c.journal-journal.ensures.sound
          (still_grown (g.V.Verifier.says c.args.self.now.verifier) old.core new.core c.args.message.now c.take-taken.result (e.told whole) (old.stored whole).grown) (e.read is);
    })
    e.disk_same e.verifier_same e.signer_same e.causes

pub returns-clause-same : goal.returns-clause-same
returns-clause-same g c = λ whole.
    let e = c.take-taken.ensures in
    let stores = e.stores whole in
    record {
      key = e.same.0;
      limits = e.same.1;
      stores = stores;
      lawful = lawful_list c.take-taken.new.self.core stores.accepted c.journal-journal.ensures.sound
          (all_kept c.take-taken.new.self.core c.journal-journal.ensures.sound c.spelled_is_kept.ensures)
          (still_grown (g.V.Verifier.says c.args.self.now.verifier) c.args.self.now.witness.core c.take-taken.new.self.core c.args.message.now c.take-taken.result (e.told whole) (c.args.self.now.witness.stored whole).grown) stores.listed;
    }

pub returns-clause-says : goal.returns-clause-says
returns-clause-says g c = c.take-taken.ensures.says

pub returns-clause-gives : goal.returns-clause-gives
returns-clause-gives g c = c.take-taken.ensures.gives

pub returns-clause-asked : goal.returns-clause-asked
returns-clause-asked g c = c.take-taken.ensures.asked

pub returns-clause-stored_where_asked : goal.returns-clause-stored_where_asked
returns-clause-stored_where_asked g c = c.take-taken.ensures.stored_where_asked

pub returns-clause-verdicts : goal.returns-clause-verdicts
returns-clause-verdicts g c = c.take-taken.ensures.verdicts
