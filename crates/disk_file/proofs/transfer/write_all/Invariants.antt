use Rattle.std.proofs.Common.{◌≡◌, ◌-◌, ◌≤◌, length, take}
use Rattle.disk_file.specs.Calls.{Passes}
use Rattle.disk_file.specs.declared.file_call.FileCall.TheVariants.{Wrote}
use Rattle.disk_file.proofs.transfer.write_all.Given as goal

-- what is done was written at its place
abbrev pub invariant-loop-done : goal.invariant-loop-done
invariant-loop-done g l =
    (l.done ≤ length l.bytes) × (l.bytes ≡ l.initial.bytes)
    × Passes Wrote l.fn.place (take l.done l.bytes) (g.F.RawFile.calls l.fn.file) (g.F.RawFile.calls l.file)

abbrev pub decreases-loop-done : goal.decreases-loop-done
decreases-loop-done g l = length l.initial.bytes - l.done
