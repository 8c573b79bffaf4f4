use Rattle.std.proofs.Common.{◌≡◌}
use Rattle.disk_file.proofs.transfer.write_some.Given as goal

-- an interrupted write wrote nothing
abbrev pub invariant-loop : goal.invariant-loop
invariant-loop g l = g.F.RawFile.calls l.file ≡ g.F.RawFile.calls l.fn.file
