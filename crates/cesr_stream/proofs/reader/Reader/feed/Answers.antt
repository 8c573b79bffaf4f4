use Rattle.std.proofs.Common.{◌+◌, ◌<◌, ◌^◌, ap, arith, length, length-append, subst, sym}
use Rattle.cesr_stream.specs.Begun.{MayBeRead}
use Rattle.cesr_stream.specs.Reading.{Reading}
use Rattle.cesr_stream.proofs.BegunItems.{may_more}
use Rattle.cesr_stream.proofs.reader.Reader.feed.Goals as goal

pub invariant_of-self-2 : goal.invariant_of-self-2
invariant_of-self-2 c =
    let r = c.self.inside in
    let piece = c.args.piece.now in
    let more = c.in_ok-extend_from_slice.ensures.ok in
    let fits = subst (λ (v : Reading). v.place + length v.rest + length piece < 2 ^ 64) (sym c.self.view_is) c.requires in
    record {
      standard = c.self.invariant.standard;
      short = omega (arith, ap length more, fits, length-append r.bytes.items piece);
      read = subst (λ xs. MayBeRead r.limit xs r.item) (sym more) (may_more r.limit r.bytes.items piece r.item c.self.invariant.read);
      drained = λ drained not_bad. cc;
    }
