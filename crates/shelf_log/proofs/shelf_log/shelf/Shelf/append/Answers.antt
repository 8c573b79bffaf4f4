use Rattle.std.proofs.Common.{ℕ, List, [], ◌∷◌, length, length-append, sym, ◌∙◌, ap, subst, arith}
use Rattle.std.proofs.lemmas.Bool.Decides.{nat_tests}
use Rattle.shelf_log.specs.ShelfLog.Format.{shelf_front}
use Rattle.shelf_log.specs.ShelfLog.OnDisk.{HoldsDurably}
use Rattle.shelf_log.specs.declared.shelf_log.version.Version.TheVariants.{Two}
use Rattle.shelf_log.proofs.ShelfLogLemmas.Files.{length-front-push}
use Rattle.shelf_log.proofs.shelf_log.shelf.Shelf.append.Goals as goal

pub invariant_of-self : goal.invariant_of-self
invariant_of-self g c =
    let self = c.args.self.now in
    let stores = c.in-Ok.ensures.stores (self.durable c.if-self.false) self.ends in
    record {
      ends = omega (arith, self.ends, length-front-push Two self.list c.args.payload.now) ∙ ap (λ (l : List (List ℕ)). length (shelf_front Two l)) (sym c.in-Ok.ensures.ok);
      few = grind (arith, nat_tests, c.has_no_room.ensures, c.if-has_no_room.false, self.ends, self.limits.shelf_bytes_standard);
      counted = grind (arith, nat_tests, c.has_no_room.ensures, c.if-has_no_room.false, ap length c.in-Ok.ensures.ok, length-append self.list (c.args.payload.now ∷ []));
      durable = λ whole. subst (HoldsDurably (g.D.Disk.shown c.add.new.disk)) (sym c.in-Ok.ensures.ok) stores.durable;
    }
