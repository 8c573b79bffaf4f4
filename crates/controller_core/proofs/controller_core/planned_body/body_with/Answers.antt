use Rattle.std.proofs.Common.{◌≤◌, length, refl, subst}
use Rattle.event_body.specs.EventBody.Judging.{SpellsEvent}
use Rattle.controller_core.specs.ControllerCore.Messages.{event_text}
use Rattle.controller_core.proofs.controller_core.planned_body.body_with.Goals as goal

pub write_body-requires : goal.write_body-requires
write_body-requires c = c.requires

pub returns-in-Ok : goal.returns-in-Ok
unfolding event_text
returns-in-Ok c = record {
  event = refl;
  text = c.in-Ok.ensures.text;
  whole = record {
    spelled = subst (SpellsEvent c.args.event) c.in-Ok.ensures.text c.in-Ok.ensures.spelled.0;
    short = subst (λ text. length text ≤ 65535) c.in-Ok.ensures.text c.in-Ok.ensures.spelled.1;
  };
  fault = tt;
}

pub returns-in-Err : goal.returns-in-Err
returns-in-Err c = record { event = tt; text = tt; whole = tt; fault = c.in-Err.ensures.fault }
