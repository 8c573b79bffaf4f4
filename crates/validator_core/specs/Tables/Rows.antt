-- What is read of the lists: events by their names and numbers, and the claims of an entry that stand on an event.
use Rattle.std.specs.Prelude.{ℕ, Bool, false, ◌&&◌, ◌==◌, List, slice_get, bytes_eq, Option, Some, None, if◌then◌else◌}
use Rattle.std.specs.List.{list_any}
use Rattle.cesr_codes.specs.declared.prefix.Prefix.{Prefix}
use Rattle.event_body.specs.declared.event_body.event.Event.{Event}
use Rattle.event_body.specs.EventBody.Events.{prefix_of, is_receipt}
use Rattle.event_backing.specs.EventSeals.{holds_seal}
use Rattle.escrow.specs.declared.escrow.waiter.Waiter.{Waiter}
use Rattle.journal.specs.declared.journal.claim.Claim.{Claim}
use Rattle.journal.specs.declared.journal.entry.Entry.{Entry}
use Rattle.journal.specs.declared.journal.entry.Entry.TheVariants.{Took, Heard}
use Rattle.journal.specs.Journal.Replies.{same_claim}
use Rattle.key_state.specs.Same.{same_digest, same_prefix}
use Rattle.validator_core.specs.declared.tables.name.Name.{Name}
use Rattle.validator_core.specs.Tables.Names.{name_of}
use Rattle.validator_core.specs.Tables.View.{waiter_of}

-- it is these bytes
abbrev pub is_text : List ℕ → Option (List ℕ) → Bool
is_text bytes None = false
is_text bytes (Some text) = bytes_eq text bytes

-- it is this number
abbrev pub is_number : ℕ → Option ℕ → Bool
is_number n None = false
is_number n (Some m) = m == n

abbrev pub same_name : Name → Name → Bool
same_name a b = same_prefix a.prefix b.prefix && (a.sn == b.sn) && same_digest a.said b.said

-- the event of a number, where there is a number
abbrev pub event_there : List Event → Option ℕ → Option Event
event_there events None = None
event_there events (Some n) = slice_get events n

-- it is an event with this name
abbrev pub is_named : Name → Option Event → Bool
is_named name None = false
is_named name (Some e) = same_name (name_of e) name

-- it is an event of this identifier that seals the name
abbrev pub is_seal_of : Prefix → Name → Option Event → Bool
is_seal_of holder name None = false
is_seal_of holder name (Some e) = same_prefix (prefix_of e) holder && holds_seal e name.prefix name.sn name.said

-- the claim came with the body of a number by the entry
abbrev pub has_claim : ℕ → Claim → Option Entry → Bool
has_claim n c None = false
has_claim n c (Some (Took reader m claims)) = (m == n) && list_any (same_claim c) claims
has_claim n c (Some (Heard reader m key sig verdict)) = false

-- what waits of the body of a number: nothing of a receipt
abbrev pub waiter_for : ℕ → Event → Option Waiter
waiter_for n e = if is_receipt e then None else Some (waiter_of n e)

-- what the escrow has under a number, once a waiter was put into it
abbrev pub placed : Option Waiter → ℕ → Option Waiter → Option Waiter
placed None n held = held
placed (Some w) n held = if n == w.number then Some w else held
