use Rattle.event_body.proofs.BodyFieldsLemmas.Whole.{whole}
use Rattle.event_body.proofs.body_fields.fields.read_fields.Goals as goal

pub returns-clause-only : goal.returns-clause-only
returns-clause-only c = whole c.args.bytes.now c.read.result c.read.ensures.read c.read.ensures.fault
