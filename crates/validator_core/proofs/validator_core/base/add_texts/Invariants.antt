use Rattle.std.proofs.Common.{◌≡◌, ◌++◌, length}
use Rattle.std.specs.Vec.Iter.{into_iter_items, into_iter_len}
use Rattle.validator_core.specs.ValidatorCore.Base.{IsBase}
use Rattle.validator_core.proofs.validator_core.base.add_texts.Given as goal

-- the first texts are accepted
abbrev pub invariant-loop-text : goal.invariant-loop-text
invariant-loop-text l = record {
  all : l.yielded ++ into_iter_items l.text-iterator ≡ into_iter_items l.initial.text-iterator;
  left : into_iter_len l.text-iterator ≡ length (into_iter_items l.text-iterator);
  base : IsBase l.yielded l.tables;
}
