use Rattle.std.proofs.Common.{◌∙◌, sym, ap}
use Rattle.cesr_stream.specs.Front.{front}
use Rattle.cesr_stream.proofs.Bounds.{few-front}
use Rattle.cesr_stream.proofs.reader.Reader.next.Goals as goal

pub returns-in-Err-Unfinished-clause-few : goal.returns-in-Err-Unfinished-clause-few
returns-in-Err-Unfinished-clause-few c =
    let r = c.self.inside in
    let unfinished_item = rw c.in-Err-Unfinished.field-0-is at c.in-Err-Unfinished.ensures.err in
    few-front r.limit r.begun r.bytes.items c.self.invariant.standard (ap (front r.limit r.begun) (sym c.as_slice-bytes.ensures) ∙ unfinished_item)
