use Rattle.std.proofs.Common.{List, take, sym, subst}
use Rattle.std.specs.Prelude.{flat_map}
use Rattle.std.proofs.lemmas.List.{take_all}
use Rattle.journal.specs.Journal.Journals.{chosen}
use Rattle.journal.specs.declared.journal.body.Body.{Body}
use Rattle.journal.specs.declared.journal.conflict.Conflict.{Conflict}
use Rattle.watcher_core.specs.Named.{PutsBodies}
use Rattle.watcher_core.proofs.Texts.{flat_map-more, puts_more, puts_none}
use Rattle.watcher_core.proofs.bodies.put_sets.Goals as goal

pub loop-conflict-init : goal.loop-conflict-init
loop-conflict-init c = puts_none c.args.core.now c.args.text.now.bytes.items

pub loop-conflict-preserved : goal.loop-conflict-preserved
loop-conflict-preserved c =
    let core = c.args.core.now in
    let conflicts = c.args.conflicts.now in
    let conflict = c.conflict-item.result in
    let k = c.loop-conflict.conflict-index in
    let old = c.args.text.now.bytes.items in
    let mid = c.loop-conflict.text.bytes.items in
    let new = c.put_bodies.new.text.bytes.items in
    let named : Conflict → List Body = λ d. chosen core.held d.bodies in
    subst (λ bs. PutsBodies core bs old new) (sym (flat_map-more named conflicts k conflict c.loop-conflict-test.true c.conflict-item.is))
    (puts_more core (flat_map named (take k conflicts)) (named conflict) old mid new c.loop-conflict.invariant
    (subst (λ ns. PutsBodies core (chosen core.held ns) mid new) c.as_slice.ensures c.in_ok-put_bodies.ensures))

pub returns : goal.returns
returns c =
    let named : Conflict → List Body = λ d. chosen c.args.core.now.held d.bodies in
    subst (λ conflicts. PutsBodies c.args.core.now (flat_map named conflicts) c.args.text.now.bytes.items c.loop-conflict.text.bytes.items)
    (take_all c.loop-conflict.conflict-index c.args.conflicts.now c.loop-conflict-test.false) c.loop-conflict.invariant
