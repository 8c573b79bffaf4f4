use Rattle.std.proofs.Common.{inr}
use Rattle.witness_core.proofs.witness_role.role.witness.Goals as goal

pub returns-in-Ok : goal.returns-in-Ok
returns-in-Ok g c =
    let opened = c.in-Ok.ensures in
    record {
      witnessed = inr (record {
        first = c.in-Ok.opened.shelf.disk;
        list = c.in-Ok.opened.shelf.list;
        middle = g.O.Outside.shown c.open_shelf.new.outside;
        opening = rw c.start.ensures.old (rw c.limits-limits.ensures at opened.opens);
        names = c.open_shelf.ensures.same_names;
        stands = opened.is_open.stands;
        starts = rw (c.limits-limits.ensures, c.open_shelf.ensures.same_sink) at c.start.ensures.starts;
      });
      no_second = c.start.ensures.no_second;
    }
