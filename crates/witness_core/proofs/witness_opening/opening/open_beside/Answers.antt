use Rattle.std.proofs.Common.{◌≡◌, ◌∙◌, [], ◌∷◌, false, true, sym}
use Rattle.run_status.specs.RunOutside.Makings.{AreMakings}
use Rattle.run_status.specs.RunOutside.Shown.{making}
use Rattle.run_status.specs.declared.run_outside.making.MakingKind.TheVariants.{Disk}
use Rattle.witness_core.proofs.WitnessOpeningLemmas.Facts.{if_map}
use Rattle.witness_core.proofs.WitnessOpeningLemmas.Makings.{one_made}
use Rattle.witness_core.proofs.WitnessOpeningLemmas.Openings.{beside_read, filled}
use Rattle.witness_core.proofs.witness_opening.opening.open_beside.Goals as goal

pub returns-in-Ok-true-clause-opens : goal.returns-in-Ok-true-clause-opens
returns-in-Ok-true-clause-opens g c =
    let made = c.in-Ok.ensures in
    let before = g.O.Outside.shown c.args.outside.now in
    let mid = g.O.Outside.shown c.disk.new.self in
    let makings : AreMakings (making Disk c.args.name.now false ∷ []) before mid = one_made Disk c.args.name.now before mid c.in-Ok.disk made.makes in
    let leftover = if_map _ _ (g.O.Disk.Disk.shown c.in-Ok.disk).file (λ file tells. tells.0 c.in-Ok-true.field-0-test) c.in-Ok-true.ensures.leftover in
    filled g.O.Disk.Disk.shown c.args.limits before mid c.args.name.now c.in-Ok.disk c.is_leftover.new.disk makings (record { holds = made.holds; none_yet = made.none_yet })
    c.is_leftover.ensures.keeps c.in-Ok-true.ensures.durable (g.O.Outside.shown c.fill.new.outside) c.args.old.now made.makes.disks leftover _ _ _ c.fill.ensures.fills

pub returns-in-Ok-false-clause-opens : goal.returns-in-Ok-false-clause-opens
returns-in-Ok-false-clause-opens g c =
    let made = c.in-Ok.ensures in
    let before = g.O.Outside.shown c.args.outside.now in
    let mid = g.O.Outside.shown c.disk.new.self in
    let makings : AreMakings (making Disk c.args.name.now false ∷ []) before mid = one_made Disk c.args.name.now before mid c.in-Ok.disk made.makes in
    let known = if_map _ _ (g.O.Disk.Disk.shown c.in-Ok.disk).file (λ file tells leftover. let clash : false ≡ true = sym c.in-Ok-false.field-0-test ∙ tells.1 leftover in cc) c.in-Ok-false.ensures.leftover in
    beside_read g.O.Disk.Disk.shown c.args.limits before mid c.args.name.now c.in-Ok.disk c.is_leftover.new.disk makings (record { holds = made.holds; none_yet = made.none_yet })
    c.is_leftover.ensures.keeps c.in-Ok-false.ensures.cause.else_same c.args.old.now _ _ _ known c.read.ensures.reads
