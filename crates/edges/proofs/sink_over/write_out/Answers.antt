use Rattle.std.proofs.Common.{length, ◌∙◌, sym, ap, arith}
use Rattle.std.proofs.lemmas.List.{take_all}
use Rattle.lists.specs.KeriSpecs.Shown.{after}
use Rattle.edges.proofs.EdgesLemmas.Steady.{keeps_same}
use Rattle.edges.proofs.sink_over.write_out.Goals as goal

-- all of the bytes were added, though they may be kept back
pub returns-in-Err : goal.returns-in-Err
returns-in-Err g c =
    let written = g.W.Write.contents c.write_all.new.writer in
    let flushed = g.W.Write.contents c.flush.new.self in
    let steady = g.met.W.SteadyWrite.steady in (
      length c.args.bytes.now,
      keeps_same written flushed (steady c.flush.new.self ∙ sym (steady c.write_all.new.writer)) c.flush.ensures.bytes
          ∙ c.in_ok-write_all.ensures
          ∙ ap (after (g.W.Write.contents c.args.writer.now)) (sym (take_all (length c.args.bytes.now) c.args.bytes.now (omega arith))),
    )
