use Rattle.std.proofs.Common.{◌∙◌, ◌-◌, [], sym, subst, append-nil, arith}
use Rattle.keri_roles.specs.ItemConversion.Closes.{Gave}
use Rattle.keri_roles.specs.ItemConversion.Converts.{bounds, ends_shown}
use Rattle.keri_roles.proofs.ItemConversionLemmas.Pieces.{HasRead, ends, few_read, gave_none, no_memory, passes, read_on, refuses, stayed, stops}
use Rattle.keri_roles.proofs.item_conversion.convert.read_pieces.Goals as goal

pub returns-in-Ok-eq0 : goal.returns-in-Ok-eq0
returns-in-Ok-eq0 g c =
    let seen = ends_shown g.S.Source.left g.S.Source.faults g.K.Sink.written g.K.Sink.faults in
    let read = c.loop-room.invariant.has_read in
    let first = seen c.args.source.now c.args.sink.now in
    let before = seen c.loop-room.source c.loop-room.sink in
    let most = bounds c.args.converter.now.reader.limit c.args.most in
    let domain = c.args.converter.now.domain in
    let old = c.loop-room.converter in
    let few = few_read most c.loop-room.room domain first before old.reader old.sink_failed read in
    let now = seen c.feed_piece.new.source c.loop-room.sink in
    let piece = c.in-Ok-eq0.ensures.ok in
    let (at_end, same) = piece.at_end c.in-Ok-eq0.field-0-test in
    rw (c.close_end.ensures.sink_failed ∙ c.in-Ok-eq0.ensures.sink_failed)
    (ends most domain first now read.fed old.reader old.sink_failed read.has_put read.limit few c.close_end.new.self.reader c.close_end.result
    c.loop-room.invariant.idle
    (gave_none first.source before.source now.source read.fed piece.piece c.in-Ok-eq0.field-0 read.gave piece.gave piece.counted
    c.in-Ok-eq0.field-0-test) at_end (stayed first.source.faults before.source.faults now.source.faults read.same_faults piece.same_faults)
    (rw same at c.close_end.ensures.ends))

pub returns-in-Err : goal.returns-in-Err
returns-in-Err g c =
    let seen = ends_shown g.S.Source.left g.S.Source.faults g.K.Sink.written g.K.Sink.faults in
    let read = c.loop-room.invariant.has_read in
    let first = seen c.args.source.now c.args.sink.now in
    let before = seen c.loop-room.source c.loop-room.sink in
    let most = bounds c.args.converter.now.reader.limit c.args.most in
    let domain = c.args.converter.now.domain in
    let old = c.loop-room.converter in
    let few = few_read most c.loop-room.room domain first before old.reader old.sink_failed read in
    rw c.in-Err.ensures.sink_failed
    (stops most domain first
    (seen c.feed_piece.new.source c.loop-room.sink) read.fed old.reader old.sink_failed read.has_put read.limit few before.source
    c.feed_piece.new.self.reader c.in-Err.close
    c.loop-room.invariant.idle read.gave read.same_faults c.in-Err.ensures.err)

pub returns : goal.returns
returns g c =
    let seen = ends_shown g.S.Source.left g.S.Source.faults g.K.Sink.written g.K.Sink.faults in
    let read = c.loop-room.invariant.has_read in
    let first = seen c.args.source.now c.args.sink.now in
    let before = seen c.loop-room.source c.loop-room.sink in
    let most = bounds c.args.converter.now.reader.limit c.args.most in
    let domain = c.args.converter.now.domain in
    let old = c.loop-room.converter in
    let few = few_read most c.loop-room.room domain first before old.reader old.sink_failed read in
    let counted = read.counted in
    let over = c.loop-room-test.false in
    rw c.close_full.ensures.sink_failed
    (passes most domain first
    (seen c.close_full.new.source c.loop-room.sink) read.fed old.reader old.sink_failed read.has_put read.limit few before.source
    c.close_full.new.self.reader c.close_full.result
    c.loop-room.invariant.idle read.gave read.same_faults (omega (arith, counted, over)) c.close_full.ensures.passes)

pub loop-room-preserved : goal.loop-room-preserved
loop-room-preserved g c =
    let seen = ends_shown g.S.Source.left g.S.Source.faults g.K.Sink.written g.K.Sink.faults in
    let read = c.loop-room.invariant.has_read in
    let first = seen c.args.source.now c.args.sink.now in
    let before = seen c.loop-room.source c.loop-room.sink in
    let most = bounds c.args.converter.now.reader.limit c.args.most in
    let domain = c.args.converter.now.domain in
    let old = c.loop-room.converter in
    let now = seen c.feed_piece.new.source c.write_items.new.sink in
    let new = c.write_items.new.self in
    let more : HasRead most (c.loop-room.room - c.in-Ok.count) domain first now new.reader new.sink_failed =
    read_on most c.loop-room.room c.in-Ok.count domain c.feed_piece.new.self.domain new.domain first before now.source now.sink old.reader
    c.feed_piece.new.self.reader new.reader
    old.sink_failed c.feed_piece.new.self.sink_failed new.sink_failed read c.in-Ok.ensures.ok c.in-Ok.count-test.1
    (c.in-Ok.ensures.domain ∙ c.loop-room.invariant.same_domain)
    c.in-Ok.ensures.sink_failed c.write_items.ensures.goes_on in
    record {
      has_read = more;
      idle = rw c.in-Ok-None.field-0-is at c.in-Ok-None.ensures.stops;
      same_domain =
          let fed = c.feed_piece.new.self.domain in
          stayed domain fed new.domain
          (stayed domain old.domain fed c.loop-room.invariant.same_domain c.in-Ok.ensures.domain) c.write_items.ensures.goes_on.domain;
    }

pub returns-in-Ok-Some : goal.returns-in-Ok-Some
returns-in-Ok-Some g c =
    let seen = ends_shown g.S.Source.left g.S.Source.faults g.K.Sink.written g.K.Sink.faults in
    let read = c.loop-room.invariant.has_read in
    let first = seen c.args.source.now c.args.sink.now in
    let before = seen c.loop-room.source c.loop-room.sink in
    let most = bounds c.args.converter.now.reader.limit c.args.most in
    let domain = c.args.converter.now.domain in
    let old = c.loop-room.converter in
    let now = seen c.feed_piece.new.source c.write_items.new.sink in
    let new = c.write_items.new.self in
    let more : HasRead most (c.loop-room.room - c.in-Ok.count) domain first now new.reader new.sink_failed =
    read_on most c.loop-room.room c.in-Ok.count domain c.feed_piece.new.self.domain new.domain first before now.source now.sink old.reader
    c.feed_piece.new.self.reader new.reader
    old.sink_failed c.feed_piece.new.self.sink_failed new.sink_failed read c.in-Ok.ensures.ok c.in-Ok.count-test.1
    (c.in-Ok.ensures.domain ∙ c.loop-room.invariant.same_domain)
    c.in-Ok.ensures.sink_failed c.write_items.ensures.goes_on in
    let few = few_read most (c.loop-room.room - c.in-Ok.count) domain first now new.reader new.sink_failed more in
    refuses most domain first now more.fed new.reader new.sink_failed more.has_put more.limit few c.in-Ok-Some.bad
    (rw c.in-Ok-Some.field-0-is at c.in-Ok-Some.ensures.stops) more.gave more.same_faults

pub returns-in-Err-write_items : goal.returns-in-Err-write_items
returns-in-Err-write_items g c =
    let seen = ends_shown g.S.Source.left g.S.Source.faults g.K.Sink.written g.K.Sink.faults in
    let read = c.loop-room.invariant.has_read in
    let first = seen c.args.source.now c.args.sink.now in
    let before = seen c.loop-room.source c.loop-room.sink in
    let most = bounds c.args.converter.now.reader.limit c.args.most in
    let domain = c.args.converter.now.domain in
    let old = c.loop-room.converter in
    let now = seen c.feed_piece.new.source c.write_items.new.sink in
    let new = c.write_items.new.self in
    let more : HasRead most (c.loop-room.room - c.in-Ok.count) domain first now new.reader new.sink_failed =
    read_on most c.loop-room.room c.in-Ok.count domain c.feed_piece.new.self.domain new.domain first before now.source now.sink old.reader
    c.feed_piece.new.self.reader new.reader
    old.sink_failed c.feed_piece.new.self.sink_failed new.sink_failed read c.in-Ok.ensures.ok c.in-Ok.count-test.1
    (c.in-Ok.ensures.domain ∙ c.loop-room.invariant.same_domain)
    c.in-Ok.ensures.sink_failed c.write_items.ensures.goes_on in
    let few = few_read most (c.loop-room.room - c.in-Ok.count) domain first now new.reader new.sink_failed more in
    no_memory most domain first now more.fed new.reader new.sink_failed more.has_put more.limit few []
    (subst (λ bytes. Gave first.source now.source bytes) (sym (append-nil more.fed)) more.gave) more.same_faults
