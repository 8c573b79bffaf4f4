use Rattle.std.proofs.Common.{sym, subst, ◌∙◌, arith, ℕ, List, length, take, drop, ◌≡◌, ◌-◌, ◌≤◌, length-take, length-drop}
use Rattle.std.proofs.lemmas.Slice.{take-put_mid_below}
use borrow.Rule.Slice.PartMut.{put_mid}
use Rattle.disk_file.proofs.DiskFileLemmas.Pieces.{of_the_filled, size_filled, passes-front, passes-further}
use Rattle.disk_file.specs.Calls.{Passes}
use Rattle.disk_file.specs.declared.file_call.FileCall.TheVariants.{Read}
use Rattle.disk_file.proofs.transfer.read_all.Goals as goal

pub returns-in_err-done : goal.returns-in_err-done
returns-in_err-done g c =
    let old = c.loop-done.buf in
    let done = c.loop-done.done in
    let more = c.read_some.new.buf in
    let few : done ≤ length old = c.loop-done.invariant.0 in
    let size : length more ≡ length old - done = (let kept = c.read_some.auto.buf in let cut = length-take (length old - done) (drop done old) in let rest = length-drop done old in omega (arith, kept, cut, rest)) in
    let filled = put_mid done (length old - done) old more in
    let same : take done filled ≡ take done old = take-put_mid_below done (length old - done) old more done (omega arith) few in
    passes-front Read c.args.place filled done (g.F.RawFile.calls c.args.file.now) (g.F.RawFile.calls c.loop-done.file)
    (g.F.RawFile.calls c.read_some.new.file) c.from_residual.result c.from_residual.ensures.0 (omega (arith, few, size_filled done 0 old more few size (omega arith)))
    (subst (λ (front : List ℕ). Passes Read c.args.place front (g.F.RawFile.calls c.args.file.now) (g.F.RawFile.calls c.loop-done.file)) (sym same) c.loop-done.invariant.2)
    c.in_err-done.ensures.none

pub loop-done-preserved : goal.loop-done-preserved
loop-done-preserved g c =
    let old = c.loop-done.buf in
    let done = c.loop-done.done in
    let more = c.read_some.new.buf in
    let n = c.in_ok-done.field-0 in
    let few : done ≤ length old = c.loop-done.invariant.0 in
    let size : length more ≡ length old - done = (let kept = c.read_some.auto.buf in let cut = length-take (length old - done) (drop done old) in let rest = length-drop done old in omega (arith, kept, cut, rest)) in
    let most : n ≤ length more = c.in_ok-done.ensures.most in
    let filled = put_mid done (length old - done) old more in
    let long : length filled ≡ length old = size_filled done n old more few size most in (
      omega (arith, few, size, most, long),
      long ∙ c.loop-done.invariant.1,
      passes-further Read c.args.place old filled (take n more) done n (g.F.RawFile.calls c.args.file.now)
          (g.F.RawFile.calls c.loop-done.file) (g.F.RawFile.calls c.read_some.new.file) few (of_the_filled done n old more few size most) c.loop-done.invariant.2 c.in_ok-done.ensures.passes,
    )
