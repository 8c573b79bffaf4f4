-- How a message is judged by itself.
use Rattle.std.specs.Prelude.{◌≡◌, Bool, true, false, not, List, Option, Some, None, Result, Ok, Err, if◌then◌else◌}
use Rattle.std.specs.List.{list_any, list_all}
use Rattle.cesr_stream.specs.declared.message.Message.{Message}
use Rattle.event_body.specs.declared.event_body.event.Event.{Event}
use Rattle.event_body.specs.declared.event_body.body_fault.BodyFault.{BodyFault}
use Rattle.cesr_stream.specs.declared.group.Group.{Group}
use Rattle.journal.specs.declared.journal.reply.Reason.{Reason}
use Rattle.journal.specs.declared.journal.reply.Reason.TheVariants.{TooManySigs, WrongGroup, DigestOnly, Unsigned}
use Rattle.journal.specs.Journal.Feeds.{GivesBody}
use Rattle.journal.specs.Journal.Replies.{refusal, is_held, is_held_group, claims_of_group}

-- the event that its body spells, where it isn't refused, or why it is refused
abbrev pub JudgesMessage : Message → Result Event Reason → Type 0
JudgesMessage m (Ok e) = GivesBody m.body (Ok e) × (refusal m (Ok e) ≡ None)
JudgesMessage m (Err reason) = (gives : Result Event BodyFault) × GivesBody m.body gives × (refusal m gives ≡ Some reason)

-- the first reason to refuse a message whose body is an event's, by its groups
abbrev pub first_refusal : Bool → Bool → List Group → Option Reason
first_refusal true receipt groups = Some TooManySigs
first_refusal false true groups = if list_any (λ g. is_held_group g) groups then Some WrongGroup
    else (if list_any (λ g. not (list_all is_held (claims_of_group g))) groups then None else Some DigestOnly)
first_refusal false false groups = if list_any (λ g. list_any is_held (claims_of_group g)) groups then None else Some Unsigned
