use Rattle.std.proofs.Common.{refl, sym, ◌∙◌}
use Rattle.turn_lock.specs.Locks.{known, lock_of}
use Rattle.reader_hub.specs.SharedReader.Taken.{IsSame, Standing}
use Rattle.reader_hub.specs.SharedReader.Takers.{standing_of}
use Rattle.reader_hub.proofs.SharedReaderLemmas.Taken.{kept_out, stopped_on, taken_on}
use Rattle.reader_hub.proofs.shared_reader.hub_taker.HubTaker.offer.Goals as goal

pub returns-in-Ok-clause-ok : goal.returns-in-Ok-clause-ok
returns-in-Ok-clause-ok g c =
    let old : Standing = standing_of g.V.Verifier.says g.V.Verifier.inquiries g.V.Verifier.faults c.args.self.now in
    let verifier = c.ask_open.new.verifier in
    let new : Standing = record old {
      pass = known c.ask_open.new.pass;
      lock = lock_of c.ask_open.new.pass;
      says = g.V.Verifier.says verifier;
      inquiries = g.V.Verifier.inquiries verifier;
      faults = g.V.Verifier.faults verifier;
      refused = c.hand_in.new.refused.items;
    } in
    let same : IsSame old new = record { extent = refl; limit = refl; lock = c.ask_open.ensures.pass ∙ sym c.args.self.now.of_hub; says = c.ask_open.ensures.same } in
    taken_on old new c.args.message.now same (known c.hand_in.new.pass) c.in-Ok.ensures.offers
    c.args.extent c.ask_open.result c.ask_open.ensures.asks c.ask_open.ensures.none_open c.ask_open.ensures.none_failed

pub returns-in-Ok-clause-err : goal.returns-in-Ok-clause-err
returns-in-Ok-clause-err g c =
    let old : Standing = standing_of g.V.Verifier.says g.V.Verifier.inquiries g.V.Verifier.faults c.args.self.now in
    let verifier = c.ask_open.new.verifier in
    let new : Standing = record old {
      pass = known c.ask_open.new.pass;
      lock = lock_of c.ask_open.new.pass;
      says = g.V.Verifier.says verifier;
      inquiries = g.V.Verifier.inquiries verifier;
      faults = g.V.Verifier.faults verifier;
      refused = c.hand_in.new.refused.items;
    } in
    let same : IsSame old new = record { extent = refl; limit = refl; lock = c.ask_open.ensures.pass ∙ sym c.args.self.now.of_hub; says = c.ask_open.ensures.same } in
    stopped_on old new c.args.message.now same (known c.hand_in.new.pass) c.in-Ok.ensures.offers
    c.args.extent c.ask_open.result c.ask_open.ensures.stopped c.ask_open.ensures.stops

pub returns-in-Err-clause-err : goal.returns-in-Err-clause-err
returns-in-Err-clause-err g c =
    let old : Standing = standing_of g.V.Verifier.says g.V.Verifier.inquiries g.V.Verifier.faults c.args.self.now in
    let new : Standing = record old { pass = known c.hand_in.new.pass; lock = lock_of c.hand_in.new.pass; refused = c.hand_in.new.refused.items } in
    let same : IsSame old new = record { extent = refl; limit = refl; lock = c.hand_in.ensures.pass ∙ sym c.args.self.now.of_hub; says = refl } in
    kept_out old new c.args.message.now same c.args.extent c.in-Err.ending c.in-Err.ensures.nothing c.in-Err.ensures.kept refl c.in-Err.ensures.cause refl
