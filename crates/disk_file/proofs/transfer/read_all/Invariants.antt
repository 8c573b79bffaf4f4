use Rattle.std.proofs.Common.{◌≡◌, ◌-◌, ◌≤◌, length, take}
use Rattle.disk_file.specs.Calls.{Passes}
use Rattle.disk_file.specs.declared.file_call.FileCall.TheVariants.{Read}
use Rattle.disk_file.proofs.transfer.read_all.Given as goal

-- what is done was read from its place
abbrev pub invariant-loop-done : goal.invariant-loop-done
invariant-loop-done g l =
    (l.done ≤ length l.buf) × (length l.buf ≡ length l.initial.buf)
    × Passes Read l.fn.place (take l.done l.buf) (g.F.RawFile.calls l.fn.file) (g.F.RawFile.calls l.file)

abbrev pub decreases-loop-done : goal.decreases-loop-done
decreases-loop-done g l = length l.initial.buf - l.done
