use Rattle.event_body.proofs.BodyFieldsLemmas.Lists.{are_fixed}
use Rattle.event_body.proofs.body_fields.field_values.fixed_keys_in.Goals as goal

pub returns-clause-valid : goal.returns-clause-valid
returns-clause-valid c = (c.in_ok-keys.ensures.valid, are_fixed _ _ c.requires c.in_ok-keys.ensures.valid c.in_ok-keys.ensures.value)
