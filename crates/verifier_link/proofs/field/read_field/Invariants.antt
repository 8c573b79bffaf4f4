use Rattle.std.proofs.Common.{◌≤◌, ◌-◌, length, take}
use Rattle.verifier_link.specs.Sides.{Gave}
use Rattle.keri_outside.specs.Shown.{source_shown}
use Rattle.verifier_link.proofs.field.read_field.Given as goal

-- so many bytes of the field were read
abbrev pub invariant-loop-count : goal.invariant-loop-count
invariant-loop-count g l =
    let told = source_shown g.S.Source.left g.S.Source.faults in
    record {
      few : l.count ≤ length l.field;
      gave : Gave (told l.fn.source) (told l.source) (take l.count l.field);
    }

abbrev pub decreases-loop-count : goal.decreases-loop-count
decreases-loop-count g l = length l.initial.field - l.count
