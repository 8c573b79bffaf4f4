use Rattle.run_status.proofs.message_feed.feed.feed_messages.Given as goal

abbrev pub ghost-feed_pieces : goal.ghost-feed_pieces
ghost-feed_pieces g a = a.taker.now
