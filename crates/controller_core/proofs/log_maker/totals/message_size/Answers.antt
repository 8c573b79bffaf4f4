use Rattle.std.proofs.Common.{◌<◌, arith, sym, ◌∙◌}
use Rattle.controller_core.proofs.LogMakerLemmas.Counts.{first_bytes, rotation_bytes, interaction_bytes}
use Rattle.controller_core.proofs.log_maker.totals.message_size.Goals as goal
use Rattle.controller_core.proofs.log_maker.totals.message_size.Goals.{then-event-eq0, else-event-eq0+then-is_rotation, else-event-eq0+else-is_rotation}

pub returns-clause-size : goal.returns-clause-size
returns-clause-size c =
    let event = c.args.event.now in
    elim c.if-event-eq0.branch [
      | then-event-eq0 w ↦ omega (arith, w.plain-is, c.hex_length.ensures.digits, first_bytes event.seed event.log event.sn w.if-event-eq0.true)
      | else-event-eq0+then-is_rotation w ↦ (let later : 0 < event.sn = omega (arith, w.if-event-eq0.false) in
          omega (arith, w.plain-is, c.hex_length.ensures.digits, rotation_bytes event.seed event.log event.sn later (sym w.is_rotation.ensures ∙ w.if-is_rotation.true)))
      | else-event-eq0+else-is_rotation w ↦ (let later : 0 < event.sn = omega (arith, w.if-event-eq0.false) in
          omega (arith, w.plain-is, c.hex_length.ensures.digits, interaction_bytes event.seed event.log event.sn later (sym w.is_rotation.ensures ∙ w.if-is_rotation.false)))
    ]
