use Rattle.std.proofs.Common.{◌∙◌, ap, List, [], ◌∷◌, take, Option}
use Rattle.lists.specs.KeriSpecs.Shown.{after}
use Rattle.disk_file.proofs.DiskFileLemmas.Pieces.{passes-one, passes-empty}
use Rattle.disk_file.specs.declared.file_call.FileCall.{FileCall}
use Rattle.disk_file.specs.declared.file_call.FileCall.TheVariants.{Read}
use Rattle.disk_file.proofs.transfer.read_some.Goals as goal

pub returns-in-Ok-clause-passes : goal.returns-in-Ok-clause-passes
returns-in-Ok-clause-passes g c =
    let piece = take c.in-Ok.count c.read_at.new.buf in
    passes-one Read c.args.place piece (g.F.RawFile.calls c.args.file.now) (g.F.RawFile.calls c.read_at.new.self)
    (c.in-Ok.ensures.call ∙ ap (λ (shown : Option (List FileCall)). after shown (Read c.args.place piece ∷ [])) c.loop.invariant.0)

pub returns-in-Ok-eq0-clause-none : goal.returns-in-Ok-eq0-clause-none
returns-in-Ok-eq0-clause-none g c =
    passes-empty Read c.args.place c.read_at.new.buf (g.F.RawFile.calls c.args.file.now) (g.F.RawFile.calls c.loop.file) (g.F.RawFile.calls c.read_at.new.self)
    c.read_at.result c.in-Ok-eq0.field-0 c.in-Ok-eq0.is c.in-Ok-eq0.field-0-test c.loop.invariant.0 c.read_at.ensures.call
