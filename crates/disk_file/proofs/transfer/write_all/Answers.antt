use Rattle.std.proofs.Common.{refl, arith, length, take, drop, ◌-◌, ◌≤◌, length-take, length-drop}
use Rattle.disk_file.proofs.DiskFileLemmas.Pieces.{of_the_rest, passes-front, passes-further}
use Rattle.disk_file.specs.declared.file_call.FileCall.TheVariants.{Wrote}
use Rattle.disk_file.proofs.transfer.write_all.Goals as goal

pub returns-in_err-done : goal.returns-in_err-done
returns-in_err-done g c =
    passes-front Wrote c.args.place c.args.bytes.now c.loop-done.done (g.F.RawFile.calls c.args.file.now) (g.F.RawFile.calls c.loop-done.file)
    (g.F.RawFile.calls c.write_some.new.file) c.from_residual.result c.from_residual.ensures.0 c.loop-done.invariant.0 c.loop-done.invariant.2 c.in_err-done.ensures.none

pub loop-done-preserved : goal.loop-done-preserved
loop-done-preserved g c =
    let bytes = c.args.bytes.now in
    let done = c.loop-done.done in
    let n = c.in_ok-done.field-0 in
    let few : done ≤ length bytes = c.loop-done.invariant.0 in
    let most = c.in_ok-done.ensures.most in
    let size = length-take (length bytes - done) (drop done bytes) in
    let rest = length-drop done bytes in (
      omega (arith, few, most, size, rest),
      refl,
      passes-further Wrote c.args.place bytes bytes (take n (take (length bytes - done) (drop done bytes))) done n (g.F.RawFile.calls c.args.file.now)
          (g.F.RawFile.calls c.loop-done.file) (g.F.RawFile.calls c.write_some.new.file) few (of_the_rest done n bytes) c.loop-done.invariant.2 c.in_ok-done.ensures.passes,
    )
