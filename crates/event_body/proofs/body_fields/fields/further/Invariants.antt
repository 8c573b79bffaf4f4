use Rattle.std.proofs.Common.{◌≡◌, ◌++◌, vec_len, take}
use Rattle.event_body.specs.BodyFields.Bodies.{AreOfForms, members_text}
use Rattle.event_body.proofs.body_fields.fields.further.Given as goal

-- the fields so far stand with these values, and the rest behind them
abbrev pub invariant-loop-field : goal.invariant-loop-field
invariant-loop-field l = record {
  count : vec_len l.values ≡ l.field-index;
  forms : AreOfForms (take l.field-index l.field-items) l.values.items;
  text : l.fn.bytes ≡ members_text (take l.field-index l.field-items) l.values.items ++ l.left;
}
