use Rattle.std.proofs.Common.{sym, subst}
use Rattle.reader_hub.specs.SharedReader.Taken.{Finishes, TakesLast}
use Rattle.reader_hub.specs.SharedReader.Takers.{standing_of}
use Rattle.reader_hub.proofs.shared_reader.hub_taker.HubTaker.finish.Goals as goal
use Rattle.reader_hub.proofs.shared_reader.hub_taker.HubTaker.finish.Goals.{in-End, in-Bad, in-ReadFault}

pub returns : goal.returns
returns g c =
    let seen = standing_of g.V.Verifier.says g.V.Verifier.inquiries g.V.Verifier.faults in
    let old = seen c.args.self.now in
    let new = seen c.take_last.new.self in
    let now = c.take_last.result in
    let last = c.args.last in
    elim c.match-feed_end.branch [
      | in-End w ↦ subst (λ feed. Finishes feed last old new now) (sym w.in-End.is) (subst (λ ending. TakesLast ending last old new now) w.ending-is c.take_last.ensures)
      | in-Bad w ↦ subst (λ feed. Finishes feed last old new now) (sym w.in-Bad.is) (subst (λ ending. TakesLast ending last old new now) w.ending-is c.take_last.ensures)
      | in-ReadFault w ↦ subst (λ feed. Finishes feed last old new now) (sym w.in-ReadFault.is) (subst (λ ending. TakesLast ending last old new now) w.ending-is c.take_last.ensures)
    ]
