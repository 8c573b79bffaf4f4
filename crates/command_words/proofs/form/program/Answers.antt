use Rattle.command_words.specs.Table.{table}
use Rattle.command_words.proofs.Shapes.{new_has_shape}
use Rattle.command_words.proofs.form.program.Goals as goal

pub returns : goal.returns
unfolding table
returns c =
    let check = c.in_ok-program.ensures _ _ c.without_commands.ensures c.check.ensures in
    let validate = c.in_ok-program-2.ensures _ _ check c.over_core.ensures in
    let watch = c.in_ok-program-3.ensures _ _ validate c.over_core-2.ensures in
    let witness = c.in_ok-program-4.ensures _ _ watch c.witness.ensures in
    let make = c.in_ok-program-5.ensures _ _ witness c.make.ensures in
    let convert = c.in_ok-program-6.ensures _ _ make c.convert.ensures in
    let export = c.in_ok-program-7.ensures _ _ convert c.export.ensures in
    let blame = c.in_ok-program-8.ensures _ _ export c.blame.ensures in
    let generate = c.in_ok-program-9.ensures _ _ blame c.generate.ensures in
    c.with-10.ensures _ _ generate (new_has_shape _ _ c.new.ensures.app c.new.ensures.local)
