use Rattle.std.proofs.Common.{◌∙◌, ap, List, [], ◌∷◌, take, Option}
use Rattle.lists.specs.KeriSpecs.Shown.{after}
use Rattle.disk_file.proofs.DiskFileLemmas.Pieces.{passes-one, passes-empty}
use Rattle.disk_file.specs.declared.file_call.FileCall.{FileCall}
use Rattle.disk_file.specs.declared.file_call.FileCall.TheVariants.{Wrote}
use Rattle.disk_file.proofs.transfer.write_some.Goals as goal

pub returns-in-Ok-clause-passes : goal.returns-in-Ok-clause-passes
returns-in-Ok-clause-passes g c =
    let piece = take c.in-Ok.count c.args.bytes.now in
    passes-one Wrote c.args.place piece (g.F.RawFile.calls c.args.file.now) (g.F.RawFile.calls c.write_at.new.self)
    (c.in-Ok.ensures.call ∙ ap (λ (shown : Option (List FileCall)). after shown (Wrote c.args.place piece ∷ [])) c.loop.invariant)

pub returns-in-Ok-eq0-clause-none : goal.returns-in-Ok-eq0-clause-none
returns-in-Ok-eq0-clause-none g c =
    passes-empty Wrote c.args.place c.args.bytes.now (g.F.RawFile.calls c.args.file.now) (g.F.RawFile.calls c.loop.file) (g.F.RawFile.calls c.write_at.new.self)
    c.write_at.result c.in-Ok-eq0.field-0 c.in-Ok-eq0.is c.in-Ok-eq0.field-0-test c.loop.invariant c.write_at.ensures.call
