use Rattle.std.proofs.Common.{rules, map, subst, arith}
use Rattle.std.specs.List.{AllByRecursion}
use Rattle.std.proofs.lemmas.List.{nil_from_length}
use Rattle.std.specs.Vec.Iter.{into_iter_items}
use Rattle.journal.specs.Journal.Feeds.{reader_of}
use Rattle.validator_core.specs.ValidatorCore.View.{told_of}
use Rattle.turn_lock.specs.Locks.{IsPassOf, known}
use Rattle.reader_hub.specs.ReaderHub.Closing.{AreJoined}
use Rattle.reader_hub.specs.ReaderHub.Hubs.{head_of}
use Rattle.reader_hub.specs.declared.reader_hub.shared_core.SharedCore.{SharedCore}
use Rattle.reader_hub.proofs.ReaderHubLemmas.Joins.{joined_on, joined_whole, closes_all}
use Rattle.reader_hub.proofs.reader_hub.hub.Hub.close.Goals as goal

pub loop-other-preserved : goal.loop-other-preserved
loop-other-preserved c =
    let inv = c.loop-other.invariant in
    let items = c.in-Some.ensures.steps.0 in
    let fit = subst (λ l. AllByRecursion (λ p. IsPassOf c.args.self.turn p) l) items inv.3 in
    let p0 = known c.args.pass in
    let ps0 = map (λ p. known p) c.args.others.items in
    let joined = subst (λ l. AreJoined p0 ps0 (known c.loop-other.pass) (map (λ p. known p) l)) items inv.4 in
    (tt, tt, search rules, fit.1, joined_on p0 ps0 _ _ _ _ joined (search rules))

pub close-core-requires-clause-whole : goal.close-core-requires-clause-whole
close-core-requires-clause-whole c =
    let none = nil_from_length (into_iter_items c.loop-other.other-iterator) (let zero = c.in-None.ensures.steps.0 in let ok = c.loop-other.other-iterator.rest.ok.0 in omega (arith, zero, ok)) in
    let p0 = known c.args.pass in
    let ps0 = map (λ p. known p) c.args.others.items in
    let joined = subst (λ l. AreJoined p0 ps0 (known c.loop-other.pass) (map (λ p. known p) l)) none c.loop-other.invariant.4 in
    joined_whole p0 ps0 _ joined c.requires.all

pub returns-clause-closed : goal.returns-clause-closed
returns-clause-closed c =
    let none = nil_from_length (into_iter_items c.loop-other.other-iterator) (let zero = c.in-None.ensures.steps.0 in let ok = c.loop-other.other-iterator.rest.ok.0 in omega (arith, zero, ok)) in
    let p0 = known c.args.pass in
    let ps0 = map (λ p. known p) c.args.others.items in
    let joined = subst (λ l. AreJoined p0 ps0 (known c.loop-other.pass) (map (λ p. known p) l)) none c.loop-other.invariant.4 in
    closes_all p0 ps0 (λ (s : SharedCore). s.core) told_of head_of reader_of _ _ joined c.close-core.ensures.closed
