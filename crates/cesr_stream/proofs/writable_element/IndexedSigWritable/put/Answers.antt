use Rattle.std.proofs.Common.{take, sym, ap, ◌∙◌, subst}
use Rattle.std.proofs.lemmas.List.{take_at}
use Rattle.cesr_codes.specs.Indexed.{indexed_text}
use Rattle.cesr_stream.specs.Domains.{IsTurnable}
use Rattle.cesr_stream.proofs.Characters.{turnable_indexed}
use Rattle.cesr_stream.proofs.writable_element.IndexedSigWritable.put.Goals as goal

pub put_text-requires-clause-turnable : goal.put_text-requires-clause-turnable
put_text-requires-clause-turnable g c =
    let n = c.write-count.result in
    subst IsTurnable
    (sym (ap (take n) c.write-count.ensures.written ∙ take_at (indexed_text c.args.self.now) _ n (sym c.write-count.ensures.counted)))
    (turnable_indexed c.args.self.now)
