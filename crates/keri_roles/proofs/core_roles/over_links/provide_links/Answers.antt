use Rattle.std.proofs.Common.{◌≡◌, ◌∷◌, ◌++◌, [], length, map, refl, sym, ap, ◌∙◌, subst, arith, rules}
use Rattle.std.proofs.lemmas.List.{map-append, nil_from_length}
use Rattle.std.specs.Prelude.{option_map}
use Rattle.std.specs.Vec.Iter.{into_iter_items}
use Rattle.run_status.specs.RunStatus.Readers.{source_seen, verifier_seen}
use Rattle.reader_hub.specs.ReaderThreads.Given.{given_by}
use Rattle.keri_roles.proofs.CoreRolesLemmas.CoreTold.{seen_none}
use Rattle.keri_roles.proofs.CoreRolesLemmas.Linked.{AreGivenSoFar, given_all, given_more, given_none}
use Rattle.keri_roles.proofs.CoreRolesLemmas.Provided.{verifier_given}
use Rattle.keri_roles.proofs.core_roles.over_links.provide_links.Goals as goal

pub loop-source-init : goal.loop-source-init
loop-source-init g c =
    let empty = c.requires.none_yet in
    let none = ap length empty in
    let here = c.args.room.ok.0 in
    let items : into_iter_items c.into_iter-source-iterator.result ≡ c.args.sources.items = search rules in
    let all = ap length items in
    record {
      can = tt;
      finite = tt;
      room = omega (arith, all, none, here, c.requires.room);
      count = omega (arith, all, none);
      so_far = rw (items, empty) (given_none c.args.helper.now _ (g.O.Outside.shown c.args.outside.now));
      sink = refl;
    }

pub loop-source-preserved : goal.loop-source-preserved
loop-source-preserved g c =
    let left = g.O.Source.Source.left in
    let faults = g.O.Source.Source.faults in
    let says = g.O.Verifier.Verifier.says in
    let inquiries = g.O.Verifier.Verifier.inquiries in
    let verifier_faults = g.O.Verifier.Verifier.faults in
    let seen = source_seen left faults says inquiries verifier_faults in
    let f = given_by left faults says inquiries verifier_faults in
    let inv = c.loop-source.invariant in
    let made = c.provide_link-made.result in
    let did = c.provide_link-made.ensures in
    let before = g.O.Outside.shown c.args.outside.now in
    let mid = g.O.Outside.shown c.loop-source.outside in
    let after = g.O.Outside.shown c.provide_link-made.new.outside in
    let rest = into_iter_items c.next.new.self in
    let taken : into_iter_items c.loop-source.source-iterator ≡ c.in-Some.source ∷ rest = search rules in
    let items : c.push.new.self.items ≡ c.loop-source.providers.items ++ made ∷ [] = search rules in
    let first = ap length taken in
    let len = c.push.ensures.len in
    let capacity = c.push.ensures.capacity in
    let more = ap length items in
    record {
      can = tt;
      finite = tt;
      room = search rules;
      count = search rules;
      so_far = subst (λ l. AreGivenSoFar c.args.helper.now (map seen c.args.sources.items) (map seen rest) l before after)
          (sym (ap (map f) items ∙ map-append f c.loop-source.providers.items (made ∷ [])))
          (given_more c.args.helper.now (map seen c.args.sources.items) (seen c.in-Some.source) (map seen rest) (map f c.loop-source.providers.items) (f made) before mid after
          (rw taken at inv.so_far)
          (record { source_is = ap (option_map seen) did.source; verifier = verifier_given left faults says inquiries verifier_faults (mid.says c.args.helper.now) made.verifier did.says did.unasked did.unfailed })
          (rw (seen_none (verifier_seen left faults says inquiries verifier_faults) made.verifier) did.makes) did.same);
      sink = search rules;
    }

pub returns-clause-provided : goal.returns-clause-provided
returns-clause-provided g c =
    let zero = c.in-None.ensures.steps.0 in
    let same = c.loop-source.source-iterator.rest.ok.0 in
    let none : into_iter_items c.loop-source.source-iterator ≡ [] = nil_from_length (into_iter_items c.loop-source.source-iterator) (omega (arith, zero, same)) in
    given_all c.args.helper.now _ _ _ _ _ c.loop-source.invariant.so_far (ap (map _) none)
