use Rattle.std.proofs.Common.{sym, ap, ◌∙◌}
use Rattle.event_body.specs.BodyFields.Forms.{number_value}
use Rattle.event_body.proofs.EventBodyLemmas.Values.{number_written}
use Rattle.event_body.proofs.event_body.numbers.number.Goals as goal

pub returns : goal.returns
returns c = number_written _ _ c.number_in.ensures c.requires.few ∙ ap number_value (sym c.hex_value.ensures)
