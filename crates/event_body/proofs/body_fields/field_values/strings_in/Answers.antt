use Rattle.event_body.proofs.BodyFieldsLemmas.Lists.{members_are, strings_back}
use Rattle.event_body.proofs.body_fields.field_values.strings_in.Goals as goal

pub all_texts-requires : goal.all_texts-requires
all_texts-requires c = members_are _ _ _ c.members_in.ensures (strings_back _ c.requires)
