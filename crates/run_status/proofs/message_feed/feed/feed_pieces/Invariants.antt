use Rattle.std.proofs.Common.{◌≡◌}
use Rattle.run_status.proofs.MessageFeedLemmas.Pieces.{IsRead}
use Rattle.run_status.proofs.message_feed.feed.feed_pieces.Given as goal

-- bytes were read so far, and there is room for so many more
abbrev pub invariant-loop-room : goal.invariant-loop-room
invariant-loop-room g l = record {
  read : IsRead (g.T.Taker.has_taken g.first) (g.S.Source.left l.fn.source) (g.S.Source.left l.source) l.most l.room l.fn.reader l.reader l.fn.assembler l.assembler l.taker;
  same_faults : g.S.Source.faults l.source ≡ g.S.Source.faults l.fn.source;
}

abbrev pub decreases-loop-room : goal.decreases-loop-room
decreases-loop-room g l = l.room

abbrev pub ghost-take_items : goal.ghost-take_items
ghost-take_items g a = g.first
