use Rattle.std.proofs.Common.{length}
use Rattle.event_body.proofs.body_fields.body_text.+push_members.Given as goal

abbrev pub decreases-push_members : goal.decreases-push_members
decreases-push_members l = length l.values.now
