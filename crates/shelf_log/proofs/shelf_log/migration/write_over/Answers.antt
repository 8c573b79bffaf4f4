use Rattle.std.proofs.Common.{List, ℕ, ◌∷◌, [], slice_index, refl, ap}
use Rattle.shelf_log.specs.KeriDisk.Images.{LeavesOnly}
use Rattle.shelf_log.specs.ShelfLog.Format.{IsNoShelf}
use Rattle.shelf_log.specs.ShelfLog.Leftover.{IsLeftover}
use Rattle.shelf_log.specs.declared.shelf_log.version.Version.TheVariants.{Two}
use Rattle.shelf_log.proofs.ShelfLogLemmas.Changes.{none_of_err}
use Rattle.shelf_log.proofs.ShelfLogLemmas.Migrated.{IsBegunOr, IsUnbegun, no_shelf_unbegun, leftover_unbegun, after_cut, after_byte, all_but_first, mark_leaves, mark_holds}
use Rattle.shelf_log.proofs.KeriDiskLemmas.Moments.{and_then}
use Rattle.shelf_log.proofs.shelf_log.migration.write_over.Goals as goal

pub returns-in_err-cut_durably-clause-brings : goal.returns-in_err-cut_durably-clause-brings
returns-in_err-cut_durably-clause-brings g c = record {
  durable = none_of_err _ c.from_residual.result c.from_residual.ensures.0;
  moments = cut (IsNoShelf Two) no_shelf_unbegun;
  leftover = cut IsLeftover leftover_unbegun;
}
  where
    cut : (N : List ℕ → Type 0) → IsUnbegun N → ((f : List ℕ) → (g.D.Disk.shown c.args.disk.now).images f → N f)
        → LeavesOnly (g.D.Disk.shown c.args.disk.now) (g.D.Disk.shown c.cut_durably.new.disk) (IsBegunOr N c.args.list.now)
    cut N unbegun none = after_cut N unbegun c.args.list.now (g.D.Disk.shown c.args.disk.now) (g.D.Disk.shown c.cut_durably.new.disk) none c.cut_durably.result c.cut_durably.ensures.cuts

pub returns-in_err-put_durably-clause-brings : goal.returns-in_err-put_durably-clause-brings
returns-in_err-put_durably-clause-brings g c = record {
  durable = none_of_err _ c.from_residual-in_err-put_durably.result c.from_residual-in_err-put_durably.ensures.0;
  moments = byte (IsNoShelf Two) no_shelf_unbegun;
  leftover = byte IsLeftover leftover_unbegun;
}
  where
    byte : (N : List ℕ → Type 0) → IsUnbegun N → ((f : List ℕ) → (g.D.Disk.shown c.args.disk.now).images f → N f)
        → LeavesOnly (g.D.Disk.shown c.args.disk.now) (g.D.Disk.shown c.put_durably.new.disk) (IsBegunOr N c.args.list.now)
    byte N unbegun none =
        let list = c.args.list.now in
        let old = g.D.Disk.shown c.args.disk.now in
        let m1 = g.D.Disk.shown c.cut_durably.new.disk in
        let cuts = c.in_ok-cut_durably.ensures.cuts in
        after_byte N unbegun list old m1 none cuts.durable cuts.file (after_cut N unbegun list old m1 none c.cut_durably.result c.cut_durably.ensures.cuts)
        (g.D.Disk.shown c.put_durably.new.disk) c.put_durably.result c.put_durably.ensures.puts

pub returns-in_err-end-clause-brings : goal.returns-in_err-end-clause-brings
returns-in_err-end-clause-brings g c = record {
  durable = none_of_err _ c.from_residual-in_err-end.result c.from_residual-in_err-end.ensures.0;
  moments = behind (IsNoShelf Two) no_shelf_unbegun;
  leftover = behind IsLeftover leftover_unbegun;
}
  where
    behind : (N : List ℕ → Type 0) → IsUnbegun N → ((f : List ℕ) → (g.D.Disk.shown c.args.disk.now).images f → N f)
        → LeavesOnly (g.D.Disk.shown c.args.disk.now) (g.D.Disk.shown c.write_behind.new.disk) (IsBegunOr N c.args.list.now)
    behind N unbegun none =
        let list = c.args.list.now in
        let old = g.D.Disk.shown c.args.disk.now in
        let m1 = g.D.Disk.shown c.cut_durably.new.disk in
        let cuts = c.in_ok-cut_durably.ensures.cuts in
        let puts = c.in_ok-put_durably.ensures.puts in
        all_but_first N unbegun list old m1 none cuts.durable cuts.file (after_cut N unbegun list old m1 none c.cut_durably.result c.cut_durably.ensures.cuts)
        (g.D.Disk.shown c.put_durably.new.disk) (g.D.Disk.shown c.write_behind.new.disk) c.put_durably.result c.put_durably.ensures.puts puts.durable puts.file c.write_behind.ensures.writes.moments

pub returns-in_err-put_durably-2-clause-brings : goal.returns-in_err-put_durably-2-clause-brings
returns-in_err-put_durably-2-clause-brings g c = record {
  durable = none_of_err _ c.from_residual-in_err-put_durably-2.result c.from_residual-in_err-put_durably-2.ensures.0;
  moments = all (IsNoShelf Two) no_shelf_unbegun;
  leftover = all IsLeftover leftover_unbegun;
}
  where
    all : (N : List ℕ → Type 0) → IsUnbegun N → ((f : List ℕ) → (g.D.Disk.shown c.args.disk.now).images f → N f)
        → LeavesOnly (g.D.Disk.shown c.args.disk.now) (g.D.Disk.shown c.put_durably-2.new.disk) (IsBegunOr N c.args.list.now)
    all N unbegun none =
        let list = c.args.list.now in
        let old = g.D.Disk.shown c.args.disk.now in
        let m1 = g.D.Disk.shown c.cut_durably.new.disk in
        let m3 = g.D.Disk.shown c.write_behind.new.disk in
        let m4 = g.D.Disk.shown c.put_durably-2.new.disk in
        let cuts = c.in_ok-cut_durably.ensures.cuts in
        let puts = c.in_ok-put_durably.ensures.puts in
        let writes = c.in_ok-end.ensures.writes in
        and_then old m3 m4 (IsBegunOr N list)
        (all_but_first N unbegun list old m1 none cuts.durable cuts.file (after_cut N unbegun list old m1 none c.cut_durably.result c.cut_durably.ensures.cuts)
        (g.D.Disk.shown c.put_durably.new.disk) m3 c.put_durably.result c.put_durably.ensures.puts puts.durable puts.file c.write_behind.ensures.writes.moments)
        (mark_leaves list c.requires.sized m3 m4 writes.durable writes.file N unbegun (slice_index c.mark.result 0 ∷ []) c.put_durably-2.result refl c.put_durably-2.ensures.puts)

pub returns-clause-brings : goal.returns-clause-brings
returns-clause-brings g c =
    let writes = c.in_ok-end.ensures.writes in
    let m3 = g.D.Disk.shown c.write_behind.new.disk in
    let m4 = g.D.Disk.shown c.put_durably-2.new.disk in
    record {
      durable = mark_holds c.args.list.now c.requires.sized m3 m4 writes.durable writes.file (slice_index c.mark.result 0 ∷ []) (ap (λ (l : List ℕ). slice_index l 0 ∷ []) c.mark.ensures) c.in_ok-put_durably-2.ensures.puts.durable c.in_ok-put_durably-2.ensures.puts.file;
      moments = all (IsNoShelf Two) no_shelf_unbegun;
      leftover = all IsLeftover leftover_unbegun;
    }
  where
    all : (N : List ℕ → Type 0) → IsUnbegun N → ((f : List ℕ) → (g.D.Disk.shown c.args.disk.now).images f → N f)
        → LeavesOnly (g.D.Disk.shown c.args.disk.now) (g.D.Disk.shown c.put_durably-2.new.disk) (IsBegunOr N c.args.list.now)
    all N unbegun none =
        let list = c.args.list.now in
        let old = g.D.Disk.shown c.args.disk.now in
        let m1 = g.D.Disk.shown c.cut_durably.new.disk in
        let m3 = g.D.Disk.shown c.write_behind.new.disk in
        let m4 = g.D.Disk.shown c.put_durably-2.new.disk in
        let cuts = c.in_ok-cut_durably.ensures.cuts in
        let puts = c.in_ok-put_durably.ensures.puts in
        let writes = c.in_ok-end.ensures.writes in
        and_then old m3 m4 (IsBegunOr N list)
        (all_but_first N unbegun list old m1 none cuts.durable cuts.file (after_cut N unbegun list old m1 none c.cut_durably.result c.cut_durably.ensures.cuts)
        (g.D.Disk.shown c.put_durably.new.disk) m3 c.put_durably.result c.put_durably.ensures.puts puts.durable puts.file c.write_behind.ensures.writes.moments)
        (mark_leaves list c.requires.sized m3 m4 writes.durable writes.file N unbegun (slice_index c.mark.result 0 ∷ []) c.put_durably-2.result refl c.put_durably-2.ensures.puts)
