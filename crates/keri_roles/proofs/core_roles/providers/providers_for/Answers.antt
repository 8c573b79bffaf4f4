use Rattle.std.proofs.Common.{◌≡◌, ◌∷◌, ◌++◌, ◌+◌, [], take, ap, ◌∙◌, subst, sym, rules, map}
use Rattle.std.proofs.lemmas.List.{map-append}
use Rattle.run_status.specs.RunStatus.Readers.{source_seen, verifier_seen}
use Rattle.reader_hub.specs.ReaderThreads.Given.{given_by}
use Rattle.keri_roles.specs.CoreRoles.CoreTold.{AreProvided}
use Rattle.keri_roles.proofs.CoreRolesLemmas.CoreTold.{seen_none}
use Rattle.keri_roles.proofs.CoreRolesLemmas.Provided.{is_given, provided_at, same_on}
use Rattle.keri_roles.proofs.core_roles.providers.providers_for.Goals as goal

pub loop-name-preserved : goal.loop-name-preserved
loop-name-preserved g c =
    let left = g.O.Source.Source.left in
    let faults = g.O.Source.Source.faults in
    let says = g.O.Verifier.Verifier.says in
    let inquiries = g.O.Verifier.Verifier.inquiries in
    let verifier_faults = g.O.Verifier.Verifier.faults in
    let f = given_by left faults says inquiries verifier_faults in
    let inv = c.loop-name.invariant in
    let so_far = c.loop-name.providers.items in
    let made = c.provide-made.result in
    let did = c.provide-made.ensures in
    let before = g.O.Outside.shown c.args.outside.now in
    let mid = g.O.Outside.shown c.loop-name.outside in
    let after = g.O.Outside.shown c.provide-made.new.outside in
    let items : c.push.new.self.items ≡ so_far ++ made ∷ [] = search rules in
    record {
      provided = subst (λ l. AreProvided c.args.helper.now (map (λ name. name.now) (take (c.loop-name.name-index + 1) c.args.names.now)) l before after) (sym (ap (map f) items ∙ map-append f so_far (made ∷ [])))
          (provided_at (λ name. name.now) c.args.names.now c.loop-name.name-index _ before mid after c.args.helper.now (map f so_far) (f made) c.loop-name-test.true inv.provided inv.same
          (is_given left faults says inquiries verifier_faults mid c.args.helper.now _ made did.holds did.unread did.says did.unasked did.unfailed)
          (rw (seen_none (source_seen left faults says inquiries verifier_faults) made.source, seen_none (verifier_seen left faults says inquiries verifier_faults) made.verifier) did.makes));
      same = same_on before mid after inv.same did.names;
      count = search rules;
      room = search rules;
      sink = search rules;
    }
