use Rattle.run_status.proofs.MessageFeedLemmas.TextPieces.{IsRead}
use Rattle.run_status.proofs.message_feed.source_text.read_pieces.Given as goal

-- the bytes were read so far, and there is room for so many more
abbrev pub invariant-loop-room : goal.invariant-loop-room
invariant-loop-room g l = record {
  read : IsRead l.most l.room (g.S.Source.left l.fn.source) (g.S.Source.left l.source) (g.S.Source.faults l.fn.source) (g.S.Source.faults l.source) l.bytes.items;
}

abbrev pub decreases-loop-room : goal.decreases-loop-room
decreases-loop-room g l = l.room
