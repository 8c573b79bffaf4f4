use Rattle.std.proofs.Common.{[], sym, subst, rules}
use Rattle.cesr_stream.specs.Items.{Stand, none}
use Rattle.cesr_stream.specs.Reading.{HasFed}
use Rattle.cesr_stream.proofs.Fed.{fed_fresh}
use Rattle.cesr_stream.specs.Assembly.{IsAssembled}
use Rattle.run_status.specs.MessageFeed.Serving.{Serves}
use Rattle.run_status.proofs.message_feed.feed.feed_messages.Goals as goal

pub feed_pieces-close-requires : goal.feed_pieces-close-requires
feed_pieces-close-requires g c =
    let empty = c.new-assembler.ensures.assembled in
    let serves : Serves (g.T.Taker.has_taken c.args.taker.now) [] c.new-reader.result c.new-assembler.result c.args.taker.now = record {
      has_fed = subst (λ r. HasFed r []) (sym c.new-reader.ensures) (fed_fresh c.args.limits.body);
      items = [];
      answered = [];
      stand = subst (λ r. Stand r.limit [] [] r.begun r.place) (sym c.new-reader.ensures) none;
      assembled = subst (λ l. IsAssembled l [] [] c.new-assembler.result) (sym empty.limited) empty;
      taken = c.requires.none_taken;
    } in
    search (rules, serves)
