use Rattle.std.proofs.Common.{◌≡◌, length}
use Rattle.disk_file.proofs.transfer.read_some.Given as goal

-- an interrupted read gave nothing
abbrev pub invariant-loop : goal.invariant-loop
invariant-loop g l = (g.F.RawFile.calls l.file ≡ g.F.RawFile.calls l.fn.file) × (length l.buf ≡ length l.fn.buf)
