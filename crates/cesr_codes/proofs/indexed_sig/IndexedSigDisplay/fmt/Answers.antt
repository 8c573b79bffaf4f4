use Rattle.std.proofs.Common.{take, drop, ap, sym, ◌∙◌}
use Rattle.std.proofs.lemmas.List.{take_at}
use Rattle.cesr_codes.specs.Indexed.{indexed_text}
use Rattle.cesr_codes.proofs.Texts.{indexed_ascii}
use Rattle.cesr_codes.proofs.indexed_sig.IndexedSigDisplay.fmt.Goals as goal

pub as_text-requires : goal.as_text-requires
as_text-requires g c =
    rw (ap (take c.write-count.result) c.write-count.ensures.written ∙ take_at (indexed_text c.args.self.now) (drop c.write-count.result _) c.write-count.result (sym c.write-count.ensures.counted))
    (indexed_ascii c.args.self.now)
