use Rattle.cesr_codes.specs.Spelling.{key_text, IsKey}
use Rattle.event_body.proofs.BodyFieldsLemmas.Lists.{members_are, held_back}
use Rattle.event_body.proofs.body_fields.field_values.keys_in.Goals as goal

pub all-requires : goal.all-requires
all-requires c = members_are _ _ _ c.members_in.ensures (held_back key_text IsKey _ c.requires)
