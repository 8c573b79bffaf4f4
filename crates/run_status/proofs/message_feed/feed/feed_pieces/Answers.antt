use Rattle.std.proofs.Common.{◌∙◌, ◌++◌, [], sym, ap, subst, append-nil, arith, inl}
use Rattle.run_status.specs.declared.message_feed.feed_close.FeedClose.TheVariants.{Bad, OutOfMemory}
use Rattle.run_status.specs.MessageFeed.Closing.{Gave}
use Rattle.run_status.specs.MessageFeed.Serving.{Serves}
use Rattle.run_status.proofs.MessageFeedLemmas.Pieces.{gave_more, gave_none, serves_fed, runs, ends, passes, counted_on}
use Rattle.run_status.proofs.message_feed.feed.feed_pieces.Goals as goal

pub returns-in-Ok-eq0-clause-runs : goal.returns-in-Ok-eq0-clause-runs
returns-in-Ok-eq0-clause-runs g c =
    let inv = c.loop-room.invariant.read in
    let piece = c.in-Ok-eq0.ensures.ok in
    let (at_end, same) = piece.at_end c.in-Ok-eq0.field-0-test in
    ends (g.T.Taker.has_taken g.first) (g.T.Taker.has_stopped g.first) c.args.most (g.S.Source.left c.args.source.now) (g.S.Source.left c.feed_piece.new.source)
    (g.S.Source.faults c.args.source.now) (g.S.Source.faults c.feed_piece.new.source) c.args.reader.now inv.fed c.loop-room.reader c.args.assembler.now c.loop-room.assembler c.loop-room.taker
    inv.serves inv.body_limit inv.message_limit (let n = inv.counted in omega (arith, n)) c.close_end.new.reader c.close_end.result inv.idle
    (gave_none _ _ _ inv.fed piece.piece inv.gave piece.gave (piece.counted ∙ c.in-Ok-eq0.field-0-test)) at_end (piece.same_faults ∙ c.loop-room.invariant.same_faults) (rw same at c.close_end.ensures)

pub returns-in-Err-OutOfMemory-clause-runs : goal.returns-in-Err-OutOfMemory-clause-runs
returns-in-Err-OutOfMemory-clause-runs g c =
    let inv = c.loop-room.invariant.read in
    let none = rw c.in-Err-OutOfMemory.field-0-is at c.in-Err-OutOfMemory.ensures.err in
    runs (g.T.Taker.has_taken g.first) (g.T.Taker.has_stopped g.first) c.args.most (g.S.Source.left c.args.source.now) (g.S.Source.left c.feed_piece.new.source)
    (g.S.Source.faults c.args.source.now) (g.S.Source.faults c.feed_piece.new.source) c.args.reader.now inv.fed c.loop-room.reader c.args.assembler.now c.loop-room.assembler c.loop-room.taker
    inv.serves inv.body_limit inv.message_limit (let n = inv.counted in omega (arith, n)) OutOfMemory
    (none.0.0, gave_more _ _ _ inv.fed none.0.0 inv.gave none.0.1) inv.serves.taken

pub loop-room-preserved : goal.loop-room-preserved
loop-room-preserved g c =
    let inv = c.loop-room.invariant.read in
    let piece = c.in-Ok.ensures.ok in
    let more = piece.fed c.in-Ok.count-test.1 in
    let served = subst (λ r. Serves (g.T.Taker.has_taken g.first) (inv.fed ++ piece.piece) r c.loop-room.assembler c.loop-room.taker) (sym more)
    (serves_fed (g.T.Taker.has_taken g.first) inv.fed c.loop-room.reader piece.piece c.loop-room.assembler c.loop-room.taker inv.serves) in
    let now = c.in-Ok-None.ensures.ok (inv.fed ++ piece.piece) served in
    record {
      read = record {
        fed = inv.fed ++ piece.piece;
        idle = rw c.in-Ok-None.field-0-is at c.in-Ok-None.ensures.stops;
        serves = now.0;
        gave = gave_more _ _ _ inv.fed piece.piece inv.gave piece.gave;
        counted = counted_on inv.fed piece.piece c.loop-room.room c.in-Ok.count c.args.most piece.counted piece.few inv.counted;
        body_limit = now.1.body_limit ∙ (ap (λ r. r.limit) more ∙ inv.body_limit);
        message_limit = now.1.message_limit ∙ inv.message_limit;
      };
      same_faults = piece.same_faults ∙ c.loop-room.invariant.same_faults;
    }

pub returns-in-Ok-Some-clause-runs : goal.returns-in-Ok-Some-clause-runs
returns-in-Ok-Some-clause-runs g c =
    let inv = c.loop-room.invariant.read in
    let piece = c.in-Ok.ensures.ok in
    let more = piece.fed c.in-Ok.count-test.1 in
    let served = subst (λ r. Serves (g.T.Taker.has_taken g.first) (inv.fed ++ piece.piece) r c.loop-room.assembler c.loop-room.taker) (sym more)
    (serves_fed (g.T.Taker.has_taken g.first) inv.fed c.loop-room.reader piece.piece c.loop-room.assembler c.loop-room.taker inv.serves) in
    let now = c.in-Ok-Some.ensures.ok (inv.fed ++ piece.piece) served in
    let count = counted_on inv.fed piece.piece c.loop-room.room c.in-Ok.count c.args.most piece.counted piece.few inv.counted in
    runs (g.T.Taker.has_taken g.first) (g.T.Taker.has_stopped g.first) c.args.most (g.S.Source.left c.args.source.now) (g.S.Source.left c.feed_piece.new.source)
    (g.S.Source.faults c.args.source.now) (g.S.Source.faults c.feed_piece.new.source) c.args.reader.now (inv.fed ++ piece.piece) c.take_items.new.reader c.args.assembler.now c.take_items.new.assembler c.take_items.new.taker
    now.0 (now.1.body_limit ∙ (ap (λ r. r.limit) more ∙ inv.body_limit)) (now.1.message_limit ∙ inv.message_limit) (omega (arith, count)) (Bad c.in-Ok-Some.bad)
    (gave_more _ _ _ inv.fed piece.piece inv.gave piece.gave, inl (rw c.in-Ok-Some.field-0-is at c.in-Ok-Some.ensures.stops), piece.same_faults ∙ c.loop-room.invariant.same_faults) now.0.taken

pub returns-in-Err-Stopped-take_items-clause-runs : goal.returns-in-Err-Stopped-take_items-clause-runs
returns-in-Err-Stopped-take_items-clause-runs g c =
    let inv = c.loop-room.invariant.read in
    let piece = c.in-Ok.ensures.ok in
    let more = piece.fed c.in-Ok.count-test.1 in
    let served = subst (λ r. Serves (g.T.Taker.has_taken g.first) (inv.fed ++ piece.piece) r c.loop-room.assembler c.loop-room.taker) (sym more)
    (serves_fed (g.T.Taker.has_taken g.first) inv.fed c.loop-room.reader piece.piece c.loop-room.assembler c.loop-room.taker inv.serves) in
    let now = rw c.in-Err-Stopped-take_items.field-0-is at c.in-Err-Stopped-take_items.ensures.err (inv.fed ++ piece.piece) served in
    let stops = now.0 in
    let count = counted_on inv.fed piece.piece c.loop-room.room c.in-Ok.count c.args.most piece.counted piece.few inv.counted in
    record {
      fed = inv.fed ++ piece.piece;
      reading = c.take_items.new.reader;
      items = stops.items;
      answered = stops.answered;
      has_fed = stops.has_fed;
      stand = stops.stand;
      assembled = stops.assembled;
      body_limit = now.1.body_limit ∙ (ap (λ r. r.limit) more ∙ inv.body_limit);
      message_limit = now.1.message_limit ∙ inv.message_limit;
      few = omega (arith, count);
      closes = gave_more _ _ _ inv.fed piece.piece inv.gave piece.gave;
      takes = stops.stopped;
    }

pub returns-in-Err-OutOfMemory-take_items-clause-runs : goal.returns-in-Err-OutOfMemory-take_items-clause-runs
returns-in-Err-OutOfMemory-take_items-clause-runs g c =
    let inv = c.loop-room.invariant.read in
    let piece = c.in-Ok.ensures.ok in
    let more = piece.fed c.in-Ok.count-test.1 in
    let fed = inv.fed ++ piece.piece in
    let served = subst (λ r. Serves (g.T.Taker.has_taken g.first) (inv.fed ++ piece.piece) r c.loop-room.assembler c.loop-room.taker) (sym more)
    (serves_fed (g.T.Taker.has_taken g.first) inv.fed c.loop-room.reader piece.piece c.loop-room.assembler c.loop-room.taker inv.serves) in
    let now = rw c.in-Err-OutOfMemory-take_items.field-0-is at c.in-Err-OutOfMemory-take_items.ensures.err (inv.fed ++ piece.piece) served in
    let (earlier, limited, serves) = now.0 in
    let count = counted_on inv.fed piece.piece c.loop-room.room c.in-Ok.count c.args.most piece.counted piece.few inv.counted in
    runs (g.T.Taker.has_taken g.first) (g.T.Taker.has_stopped g.first) c.args.most (g.S.Source.left c.args.source.now) (g.S.Source.left c.feed_piece.new.source)
    (g.S.Source.faults c.args.source.now) (g.S.Source.faults c.feed_piece.new.source) c.args.reader.now fed earlier c.args.assembler.now c.take_items.new.assembler c.take_items.new.taker
    serves (limited ∙ (now.1.body_limit ∙ (ap (λ r. r.limit) more ∙ inv.body_limit))) (now.1.message_limit ∙ inv.message_limit) (omega (arith, count)) OutOfMemory
    ([], subst (λ bytes. Gave (g.S.Source.left c.args.source.now) (g.S.Source.left c.feed_piece.new.source) bytes) (sym (append-nil fed)) (gave_more _ _ _ inv.fed piece.piece inv.gave piece.gave))
    serves.taken

pub returns-clause-runs : goal.returns-clause-runs
returns-clause-runs g c =
    let inv = c.loop-room.invariant.read in
    let n = inv.counted in
    let over = c.loop-room-test.false in
    passes (g.T.Taker.has_taken g.first) (g.T.Taker.has_stopped g.first) c.args.most (g.S.Source.left c.args.source.now) (g.S.Source.left c.close_full.new.source)
    (g.S.Source.faults c.args.source.now) (g.S.Source.faults c.close_full.new.source) c.args.reader.now inv.fed c.loop-room.reader c.args.assembler.now c.loop-room.assembler c.loop-room.taker
    inv.serves inv.body_limit inv.message_limit (omega (arith, n)) (g.S.Source.left c.loop-room.source) (g.S.Source.faults c.loop-room.source) c.close_full.new.reader c.close_full.result inv.idle inv.gave
    c.loop-room.invariant.same_faults (omega (arith, n, over)) c.close_full.ensures.passes
