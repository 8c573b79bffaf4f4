use Rattle.std.proofs.Common.{◌∙◌}
use Rattle.turn_lock.specs.Locks.{known, limit_of, lock_of}
use Rattle.keri_outside.specs.Shown.{SourceShown, source_of}
use Rattle.reader_hub.specs.SharedReader.Takers.{standing_of}
use Rattle.reader_hub.specs.SharedReader.Taken.{Standing, standing}
use Rattle.reader_hub.proofs.SharedReaderLemmas.Closed.{reads_at, reads_stream}
use Rattle.reader_hub.proofs.SharedReaderLemmas.Taken.{nothing_taken}
use Rattle.reader_hub.proofs.shared_reader.reader.read_one.Goals as goal

pub feed_messages-feed_end-requires : goal.feed_messages-feed_end-requires
feed_messages-feed_end-requires g c = record { none_taken = nothing_taken _ c.requires.own c.new.ensures.items }

pub returns : goal.returns
returns g c =
    let says = g.V.Verifier.says in
    let inquiries = g.V.Verifier.inquiries in
    let faults = g.V.Verifier.faults in
    let reader = c.args.reader in
    let source = c.feed_messages-feed_end.new.source in
    let s : Standing = standing reader.extent (limit_of c.args.hub.now.turn) (lock_of reader.pass) (known reader.pass) (says reader.verifier) (inquiries reader.verifier) (faults reader.verifier) c.new.result.items in
    let t : Standing = standing_of says inquiries faults c.finish-ending.new.self in
    let old : SourceShown = source_of (g.S.Source.left reader.source) (g.S.Source.faults reader.source) in
    let new : SourceShown = source_of (g.S.Source.left source) (g.S.Source.faults source) in
    let reads = reads_stream (standing_of says inquiries faults) c.args.limits s t old new c.feed_messages-feed_end.new.taker c.feed_messages-feed_end.result.0 c.finish-ending.result c.feed_messages-feed_end.result.1
    c.feed_messages-feed_end.ensures.feeds c.finish-ending.ensures in
    record { pass = reads.same.lock ∙ c.requires.pass; reads = reads_at c.args.limits s t old new c.finish-ending.result c.new.ensures.items reads }
