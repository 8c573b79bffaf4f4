use Rattle.std.proofs.Common.{◌∷◌, []}
use Rattle.run_status.specs.RunStatus.Readers.{source_seen, verifier_seen}
use Rattle.reader_hub.specs.ReaderThreads.Given.{given_by}
use Rattle.keri_roles.proofs.CoreRolesLemmas.CoreTold.{seen_none}
use Rattle.keri_roles.proofs.CoreRolesLemmas.Provided.{is_given, provided_more}
use Rattle.keri_roles.proofs.core_roles.blame.provide_both.Goals as goal

pub returns-clause-provided : goal.returns-clause-provided
returns-clause-provided g c =
    let left = g.O.Source.Source.left in
    let faults = g.O.Source.Source.faults in
    let says = g.O.Verifier.Verifier.says in
    let inquiries = g.O.Verifier.Verifier.inquiries in
    let verifier_faults = g.O.Verifier.Verifier.faults in
    let f = given_by left faults says inquiries verifier_faults in
    let words = c.args.words in
    let one = c.provide-first.result in
    let other = c.provide-second.result in
    let did = c.provide-first.ensures in
    let then = c.provide-second.ensures in
    let before = g.O.Outside.shown c.args.outside.now in
    let mid = g.O.Outside.shown c.provide-first.new.outside in
    let after = g.O.Outside.shown c.provide-second.new.outside in
    provided_more before mid after words.helper.now (words.first.now ∷ []) (f one ∷ []) words.second.now (f other)
    (record {
      are_given = (is_given left faults says inquiries verifier_faults before words.helper.now words.first.now one did.holds did.unread did.says did.unasked did.unfailed, tt);
      makes = rw (seen_none (source_seen left faults says inquiries verifier_faults) one.source, seen_none (verifier_seen left faults says inquiries verifier_faults) one.verifier) did.makes;
    })
    did.names
    (is_given left faults says inquiries verifier_faults mid words.helper.now words.second.now other then.holds then.unread then.says then.unasked then.unfailed)
    (rw (seen_none (source_seen left faults says inquiries verifier_faults) other.source, seen_none (verifier_seen left faults says inquiries verifier_faults) other.verifier) then.makes)
