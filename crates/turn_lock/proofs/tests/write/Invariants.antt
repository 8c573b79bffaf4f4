use Rattle.std.proofs.Common.{◌≡◌, List}
use Rattle.turn_lock.specs.Known.{OwnsAlone}
use Rattle.turn_lock.specs.Locks.{known, IsPassOf}
use Rattle.turn_lock.specs.declared.tests.notes.Note.{Note}
use Rattle.turn_lock.proofs.tests.write.Given as goal

-- the pass is of the lock, with its number and one share
abbrev pub invariant-loop-text : goal.invariant-loop-text
invariant-loop-text g l = record {
  lock : IsPassOf l.fn.turn l.pass;
  own : (es : List Note) × OwnsAlone (known l.pass) es;
  number : (known l.pass).number ≡ (known l.fn.pass).number;
  splits : (known l.pass).splits ≡ (known l.fn.pass).splits;
}
