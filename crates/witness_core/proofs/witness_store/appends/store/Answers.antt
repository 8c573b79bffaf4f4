use Rattle.std.proofs.Common.{◌∙◌, ap, arith, length, refl}
use Rattle.witness_core.specs.WitnessStore.Histories.{history_of}
use Rattle.witness_core.proofs.WitnessStoreLemmas.Known.{as_many}
use Rattle.witness_core.proofs.WitnessStoreLemmas.Stored.{appends_more, appends_none}
use Rattle.witness_core.proofs.witness_store.appends.store.Goals as goal

pub loop-alloc-init : goal.loop-alloc-init
loop-alloc-init g c = record {
  appends = appends_none (history_of c.args.core.now) c.args.shelf.now.list (g.D.Disk.shown c.args.shelf.now.disk) (g.met.D.Disk.only_now c.args.shelf.now.disk) c.requires.on_way c.requires.holds;
  fits = c.requires.fits;
  whole = c.requires.whole;
  holds = c.requires.holds;
  same_limits = refl;
  faults = refl;
}

pub store_next-requires-clause-lacking : goal.store_next-requires-clause-lacking
store_next-requires-clause-lacking g c =
    let many = as_many c.args.core.now c.accepted.result.now c.accepted.ensures.held c.accepted.ensures.accepted in
    omega (arith, many, ap length c.list.ensures, c.loop-alloc-test.true)

pub loop-alloc-smaller : goal.loop-alloc-smaller
loop-alloc-smaller g c =
    let many = as_many c.args.core.now c.accepted.result.now c.accepted.ensures.held c.accepted.ensures.accepted in
    omega (arith, many, ap length c.list.ensures, c.loop-alloc-test.true, c.in_ok-store_next.ensures.one_more)

pub loop-alloc-preserved : goal.loop-alloc-preserved
loop-alloc-preserved g c =
    let was = c.loop-alloc.invariant in
    let then = c.in_ok-store_next.ensures in
    record {
      appends = appends_more (history_of c.args.core.now) c.args.shelf.now.list c.loop-alloc.shelf.list c.store_next.new.shelf.list
          (g.D.Disk.shown c.args.shelf.now.disk) (g.D.Disk.shown c.loop-alloc.shelf.disk) (g.D.Disk.shown c.store_next.new.shelf.disk) was.appends then.appends;
      fits = then.fits;
      whole = then.whole;
      holds = then.holds;
      same_limits = then.limits ∙ was.same_limits;
      faults = then.none_failed ∙ was.faults;
    }

pub returns-in_err-store_next-clause-appends : goal.returns-in_err-store_next-clause-appends
returns-in_err-store_next-clause-appends g c =
    appends_more (history_of c.args.core.now) c.args.shelf.now.list c.loop-alloc.shelf.list c.store_next.new.shelf.list
    (g.D.Disk.shown c.args.shelf.now.disk) (g.D.Disk.shown c.loop-alloc.shelf.disk) (g.D.Disk.shown c.store_next.new.shelf.disk) c.loop-alloc.invariant.appends c.store_next.ensures.appends

pub returns-clause-stored : goal.returns-clause-stored
returns-clause-stored g c =
    let was = c.loop-alloc.invariant in
    let many = as_many c.args.core.now c.accepted.result.now c.accepted.ensures.held c.accepted.ensures.accepted in
    record {
      on_way = was.appends.on_way;
      all = omega (arith, many, ap length c.list.ensures, c.loop-alloc-test.false, was.appends.on_way.front);
      grown = c.requires.grown;
      fits = was.fits;
      whole = was.whole;
      holds = was.holds;
    }
