use Rattle.std.proofs.Common.{◌≡◌, true, sym, subst}
use Rattle.cesr_codes.specs.Indices.{has_form}
use Rattle.cesr_codes.proofs.Indexed.{indexed_front, stands_indexed}
use Rattle.cesr_codes.proofs.indexed_sig.IndexedSig.read_exact.Goals as goal

pub invariant_of-indexed : goal.invariant_of-indexed
invariant_of-indexed c = record {
  form =
      subst (λ big. has_form big c.indices-index.result.0 c.indices-index.result.1 ≡ true) (sym c.is_big-big.ensures)
      (indexed_front c.in_ok-code.code c.args.bytes.now c.read.new.raw c.indices-index.result.0 c.indices-index.result.1 c.in_ok-code.ensures c.indices-index.ensures).1;
}

pub returns : goal.returns
returns c = stands_indexed c.in_ok-code.code c.args.bytes.now _ c.total.result c.in_ok-code.ensures c.indices-index.ensures c.is_big-big.ensures c.total.ensures
